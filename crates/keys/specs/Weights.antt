-- The weights of a link that is given without one.
use Rattle.keys.specs.declared.weights.Price.{Price}
use Rattle.keys.specs.declared.weights.Listing.{Listing}

-- no cents
abbrev pub no_price : Price
no_price = record { 0 = 0 }

-- number 0, at no price
abbrev pub no_listing : Listing
no_listing = record { number = 0; price = no_price }
