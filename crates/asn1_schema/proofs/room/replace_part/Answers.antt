use Rattle.std.proofs.Common.{◌≡◌, ℕ, ◌+◌, ◌-◌, ◌^◌, ◌<◌, ◌≤◌, List, ◌∷◌, ◌++◌, Bool, length, take, refl, sym, ◌∙◌, ap, arith, inl, inr}
use Rattle.std.specs.Prelude.{map, slice_set}
use Rattle.std.proofs.Math.ListN.{set}
use Rattle.std.proofs.Math.Seq.{take-set-lt, set-append_seam}
use Rattle.std.proofs.lemmas.List.{map-set, length-set, length-append}
use Rattle.asn1_schema.specs.declared.part.Part.{Part}
use Rattle.asn1_schema.specs.declared.tables.Range.{Range}
use Rattle.asn1_schema.specs.Pieces.{Piece, Parts}
use Rattle.asn1_schema.specs.PiecesOfParts.{piece_of}
use Rattle.asn1_schema.specs.Room.{Holds, IsGrown}
use Rattle.asn1_schema.proofs.room.replace_part.Goals as goal

module _ (ranges : List Range) (list : List Bool) (was room : List Part) (i count : ℕ) (part : Part) (p : Piece) (more tape : Parts)
    (within : i < length room) (few : length room ≤ 2 ^ 64 - 1) (old : Holds ranges list was i tape)
    (now : Holds ranges list room count (tape ++ p ∷ more)) where
  index : i ≡ length tape
  index = elim old.many [ inl e ↦ e | inr s ↦ let e = s.1 in omega (arith, e, within, few) ]

  abbrev f : Part → Piece
  f = piece_of ranges list

  size : (q : Piece) → length (tape ++ q ∷ more) ≡ length tape + (length more + 1)
  size q = length-append tape (q ∷ more) ∙ omega arith

  counted : i < count
  counted = elim now.many [
    | inl e ↦ let s = size p in let n = index in omega (arith, e, s, n)
    | inr s ↦ let e = s.1 in omega (arith, e, within, few)
  ]

  kept : map f (take count (set room i part)) ≡ take (length (set room i part)) (tape ++ f part ∷ more)
  kept =
      let n = index in
      ap (map f) (take-set-lt count room i part counted)
      ∙ map-set f (take count room) i part
      ∙ ap (λ (l : Parts). set l i (f part)) now.kept
      ∙ sym (take-set-lt (length room) (tape ++ p ∷ more) i (f part) within)
      ∙ ap (λ (k : ℕ). take (length room) (set (tape ++ p ∷ more) k (f part))) n
      ∙ ap (take (length room)) (set-append_seam tape p more (f part))
      ∙ ap (λ (k : ℕ). take k (tape ++ f part ∷ more)) (sym (length-set room i part))

  pub replaced : Holds ranges list (set room i part) count (tape ++ f part ∷ more)
  replaced = record {
    kept = kept;
    many = elim now.many [
      | inl e ↦ inl (e ∙ size p ∙ sym (size (f part)))
      | inr s ↦ let a = size p in let b = size (f part) in let big = s.0 in inr (omega (arith, a, b, big), s.1)
    ];
  }

pub returns-then-index-parts : goal.returns-then-index-parts
returns-then-index-parts c ranges list was count p more grown tape old =
    replaced ranges list was c.args.parts.now c.args.index count c.args.part p more tape c.if-index-parts.true (omega arith) old
    (grown tape old)
