-- Well-formed tables: a type by its faults, and the types and members before a row.
use Rattle.std.proofs.Common.{◌≡◌, ℕ, ◌+◌, ◌<◌, inl, inr, List, length, Option, Some, None, Result, Ok, Err, arith, subst}
use Rattle.std.specs.Prelude.{IfSome, MatchResult, slice_get}
use Rattle.std.proofs.lemmas.Option.{slice_get_within}
use Rattle.asn1_schema.specs.declared.tables.Node.{Node}
use Rattle.asn1_schema.specs.declared.tables.Range.{Range}
use Rattle.asn1_schema.specs.declared.tables.Rows.{Rows}
use Rattle.asn1_schema.specs.declared.tables.Tables.{Tables}
use Rattle.asn1_schema_values.specs.declared.faults.NodeFault.{NodeFault}
use Rattle.asn1_schema_values.specs.declared.faults.NodeFault.TheVariants as fault
use Rattle.asn1_schema_values.specs.Tables.{AlphabetsKeep, AreRows, AreWellFormed, IsClosed, IsWellFormed, Keeps, KeepsIndexes, addition_rows, alphabets_of, alternative_rows, component_rows}

-- a type without alphabets has no fault of them
pub without_alphabets : (t : Tables) (n : Node) → KeepsIndexes t n → alphabets_of n ≡ None → IsWellFormed t n
without_alphabets t n k e fault.NoType = k.type_is
without_alphabets t n k e fault.Components = k.components
without_alphabets t n k e fault.Alternatives = k.alternatives
without_alphabets t n k e fault.Additions = k.additions
without_alphabets t n k e fault.NoAlternative = k.some
without_alphabets t n k e fault.NotExtensible = k.marker
without_alphabets t n k e fault.Size = k.size
without_alphabets t n k e fault.Alphabet = rw e tt
without_alphabets t n k e fault.NoRange = rw e tt
without_alphabets t n k e fault.NotAscending = rw e tt
without_alphabets t n k e fault.NotWithin = rw e tt

module _ (t : Tables) (n : Node) (alphabet whole : Rows) (e : alphabets_of n ≡ Some (alphabet, whole)) where
  pub with_alphabets : KeepsIndexes t n → ((f : NodeFault) → AlphabetsKeep f t.ranges.now alphabet whole) → IsWellFormed t n
  with_alphabets k keep fault.NoType = k.type_is
  with_alphabets k keep fault.Components = k.components
  with_alphabets k keep fault.Alternatives = k.alternatives
  with_alphabets k keep fault.Additions = k.additions
  with_alphabets k keep fault.NoAlternative = k.some
  with_alphabets k keep fault.NotExtensible = k.marker
  with_alphabets k keep fault.Size = k.size
  with_alphabets k keep fault.Alphabet = rw e (keep fault.Alphabet)
  with_alphabets k keep fault.NoRange = rw e (keep fault.NoRange)
  with_alphabets k keep fault.NotAscending = rw e (keep fault.NotAscending)
  with_alphabets k keep fault.NotWithin = rw e (keep fault.NotWithin)

  pub of_alphabets : (f : NodeFault) → ¬ (AlphabetsKeep f t.ranges.now alphabet whole) → ¬ (Keeps f t n)
  of_alphabets fault.NoType never = λ k. never tt
  of_alphabets fault.Components never = λ k. never tt
  of_alphabets fault.Alternatives never = λ k. never tt
  of_alphabets fault.Additions never = λ k. never tt
  of_alphabets fault.NoAlternative never = λ k. never tt
  of_alphabets fault.NotExtensible never = λ k. never tt
  of_alphabets fault.Size never = λ k. never tt
  of_alphabets fault.Alphabet never = rw e never
  of_alphabets fault.NoRange never = rw e never
  of_alphabets fault.NotAscending never = rw e never
  of_alphabets fault.NotWithin never = rw e never

-- the alphabets have no fault
pub alphabets_keep : (table : List Range) (alphabet whole : Rows) → AlphabetsKeep fault.Alphabet table alphabet whole
    → AlphabetsKeep fault.NoRange table alphabet whole → AlphabetsKeep fault.NotAscending table alphabet whole
    → AlphabetsKeep fault.NotWithin table alphabet whole → (f : NodeFault) → AlphabetsKeep f table alphabet whole
alphabets_keep table alphabet whole a b c d fault.NoType = tt
alphabets_keep table alphabet whole a b c d fault.Components = tt
alphabets_keep table alphabet whole a b c d fault.Alternatives = tt
alphabets_keep table alphabet whole a b c d fault.Additions = tt
alphabets_keep table alphabet whole a b c d fault.NoAlternative = tt
alphabets_keep table alphabet whole a b c d fault.NotExtensible = tt
alphabets_keep table alphabet whole a b c d fault.Size = tt
alphabets_keep table alphabet whole a b c d fault.Alphabet = a
alphabets_keep table alphabet whole a b c d fault.NoRange = b
alphabets_keep table alphabet whole a b c d fault.NotAscending = c
alphabets_keep table alphabet whole a b c d fault.NotWithin = d

-- a type with alphabets is as they are
pub by_alphabets : (t : Tables) (n : Node) (alphabet whole : Rows) → alphabets_of n ≡ Some (alphabet, whole) → KeepsIndexes t n
    → (r : Result Unit NodeFault)
    → MatchResult r (λ _. (f : NodeFault) → AlphabetsKeep f t.ranges.now alphabet whole) (λ f. ¬ (AlphabetsKeep f t.ranges.now alphabet whole))
    → MatchResult r (λ _. IsWellFormed t n) (λ f. ¬ (Keeps f t n))
by_alphabets t n alphabet whole e k (Ok x) keep = with_alphabets t n alphabet whole e k keep
by_alphabets t n alphabet whole e k (Err f) never = of_alphabets t n alphabet whole e f never

-- ---- what well-formed tables have

type_in : (t : Tables) (k : ℕ) (n : Node) → AreWellFormed t → slice_get t.nodes.now k ≡ Some n → IsWellFormed t n
type_in t k n are there = are.types k n (slice_get_within t.nodes.now k n there) there

rows_in : (rows : Option Rows) (count row : ℕ) (r : Rows) → IfSome rows (λ x. AreRows x count) → rows ≡ Some r → row < r.from + r.count
    → row < count
rows_in rows count row r are e below =
    let P : Option Rows → Type 0 = λ o. IfSome o (λ x. AreRows x count) in
    let here : AreRows r count = subst P e are in
    omega arith

pub is_closed : (t : Tables) → AreWellFormed t → IsClosed t
is_closed t are = record {
  inner = λ k inner n there e.
      let P : Option ℕ → Type 0 = λ o. IfSome o (λ i. i < length t.nodes.now) in
      subst P e (type_in t k n are there fault.NoType);
  rows = λ k row n there names.
      let is = type_in t k n are there in
      let count = length t.members.now in
      elim names.1 [
        | inl e ↦ rows_in (component_rows n) count row names.0 (is fault.Components) e names.3
        | inr others ↦ elim others [
          | inl e ↦ rows_in (alternative_rows n) count row names.0 (is fault.Alternatives) e names.3
          | inr e ↦ rows_in (addition_rows n) count row names.0 (is fault.Additions) e names.3
        ]
      ];
  types = λ row m there. are.members row m (slice_get_within t.members.now row m there) there;
}
