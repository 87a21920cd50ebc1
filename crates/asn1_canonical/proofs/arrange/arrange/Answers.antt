use Rattle.std.proofs.Common.{◌≡◌, ℕ, suc, List, [], ◌∷◌, length, map, refl, ap, ◌∙◌, subst, arith}
use Rattle.std.proofs.lemmas.List.{length-map}
use Rattle.std.specs.List.Sorted.{IsPermutation}
use Rattle.asn1_schema.specs.declared.part.Part.{Part}
use Rattle.asn1_canonical.specs.Arranged.{indexed, part_of, index_of}
use Rattle.asn1_canonical.specs.declared.arrange.Placed.{Placed}
use Rattle.asn1_canonical.proofs.arrange.arrange.Goals as goal

indexed_size : (n : ℕ) (parts : List Part) → length (indexed n parts) ≡ length parts
indexed_size n [] = refl
indexed_size n (p ∷ parts) = ap suc (indexed_size (suc n) parts)

pub copy_from_slice-requires : goal.copy_from_slice-requires
copy_from_slice-requires c =
    let a = indexed_size 0 c.args.parts.now in
    let b = ap (λ (l : List Placed). length l) c.in_ok-placed.ensures in
    let s = c.sort_by_key.ensures.len in
    let v = ap (λ (l : List Placed). length l) c.as_slice-2.ensures.value in
    let m = ap (λ (l : List Part). length l) c.in_ok-arranged.ensures in
    let n = length-map c.as_slice-2.result.now part_of in
    let w = ap (λ (l : List Part). length l) c.as_slice-3.ensures.value in
    omega (arith, a, b, s, v, m, n, w)

pub returns-clause-arranged : goal.returns-clause-arranged
returns-clause-arranged c =
    let now = c.sort_by_key.new.self.items in
    record {
      placed = now;
      each = subst (λ (l : List Placed). IsPermutation l now) c.in_ok-placed.ensures c.sort_by_key.ensures.permutation;
      parts = c.copy_from_slice.ensures.after ∙ c.as_slice-3.ensures.value ∙ c.in_ok-arranged.ensures
          ∙ ap (λ (l : List Placed). map part_of l) c.as_slice-2.ensures.value;
      are = c.in_ok-indexes.ensures ∙ ap (λ (l : List Placed). map index_of l) c.as_slice.ensures.value;
    }
