-- The first word is read byte by byte in each arm of the table. Assumes nothing.
use Rattle.std.proofs.Common.{◌≡◌, ℕ, List, length, Result, ap, sym, ◌∙◌}
use Rattle.std.proofs.lemmas.Slice.Eq.{HasBytesAt, text_from_reads}
use Rattle.commands.specs.declared.command.Command.{Command}
use Rattle.commands.specs.declared.faults.Fault.{Fault}
use Rattle.commands.specs.Commands.{asked}

-- what is answered to the word that was read is what the table says of it
pub asked_of : (word rest name : List ℕ) {r : Result Command Fault} → length word ≡ length name → HasBytesAt word 0 name → r ≡ asked name rest → r ≡ asked word rest
asked_of word rest name long reads answers = answers ∙ ap (λ w. asked w rest) (sym (text_from_reads word name long reads))
