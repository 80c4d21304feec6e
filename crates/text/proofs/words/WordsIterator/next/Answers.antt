-- The first search is for a byte of a word, the second for the blank after it.
use Rattle.std.proofs.Common.{rules, ◌≡◌, ◌-◌, Some, None, length, take, drop, refl, ap, ◌∙◌}
use Rattle.std.specs.List.{position}
use Rattle.std.specs.Option.{unwrap_or}
use borrow.Author.Tests.{tests}
use Rattle.std.proofs.lemmas.Iterator.{YieldsList-from_slice}
use Rattle.std.proofs.lemmas.Iterator.Search.{position_from_yields_List}
use Rattle.std.proofs.lemmas.List.{take_rest}
use Rattle.text.specs.Words.{blank, solid}
use Rattle.text.proofs.Cuts.{no_word, one_word}
use Rattle.text.proofs.words.WordsIterator.next.Goals as goal

pub returns-in_err-start-clause-steps : goal.returns-in_err-start-clause-steps
returns-in_err-start-clause-steps c =
    let line = c.args.self.now.rest.now in
    let found = position_from_yields_List solid _ _ c.position.result c.position.ensures.ran (YieldsList-from_slice line cc) (λ x b q k. search (rules, tests)) in
    let gone : None ≡ position solid line = search (rules, found, c.in_err-start.was) in
    rw c.from_residual.ensures (no_word line gone, refl)

pub returns-clause-steps : goal.returns-clause-steps
returns-clause-steps c =
    let line = c.args.self.now.rest.now in
    let start = c.in_ok-start.start in
    let found = position_from_yields_List solid _ _ c.position.result c.position.ensures.ran (YieldsList-from_slice line cc) (λ x b q k. search (rules, tests)) in
    let rest = take (length line - start) (drop start line) in
    let ends = position_from_yields_List blank _ _ c.position-2.result c.position-2.ensures.ran (YieldsList-from_slice rest cc) (λ x b q k. search (rules, tests)) in
    let begins : Some start ≡ position solid line = search (rules, found, c.in_ok-start.was) in
    let cut = one_word line rest start _ begins (take_rest line start) (c.unwrap_or-end.ensures ∙ ap (λ o. unwrap_or o (length rest)) ends) in
    cc (cut, c.split_at.ensures.front, c.split_at.ensures.back)
