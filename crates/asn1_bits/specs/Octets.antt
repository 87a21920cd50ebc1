-- The octets that a reader returns, and whether they are the storage's own.
use Rattle.std.specs.Prelude.{ℕ, List}
use Rattle.asn1_bits.specs.declared.octets.Octets.{Octets}
use Rattle.asn1_bits.specs.declared.octets.Octets.TheVariants.{Borrowed, Owned}

abbrev pub octets_in : Octets → List ℕ
octets_in (Borrowed o) = o.now
octets_in (Owned v) = v.items

-- they are borrowed: the octets of some storage, and no vector of their own
abbrev pub IsBorrowed : Octets → Type 0
IsBorrowed (Borrowed o) = Unit {0}
IsBorrowed (Owned v) = ⊥
