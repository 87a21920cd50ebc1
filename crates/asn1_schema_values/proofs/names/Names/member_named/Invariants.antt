use Rattle.std.proofs.Common.{◌≡◌, ◌≤◌, ◌<◌, ℕ, Some}
use Rattle.asn1_schema_values.specs.Names.{member_name}
use Rattle.asn1_schema_values.proofs.names.Names.member_named.Given as goal

abbrev pub invariant-loop-index : goal.invariant-loop-index
invariant-loop-index l = (k : ℕ) → l.fn.rows.from ≤ k → k < l.index → member_name l.self k ≡ Some l.name → ⊥
