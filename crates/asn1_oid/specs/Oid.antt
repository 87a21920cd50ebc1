-- What an `Oid` shows: its arcs.
use Rattle.std.specs.Prelude.{ℕ, List}
use Rattle.asn1_oid.specs.declared.oid.Oid.{Oid}

abbrev pub arcs_of : Oid → List ℕ
arcs_of o = o.arcs.now
