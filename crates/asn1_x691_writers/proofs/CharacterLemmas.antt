-- Characters that are examined, and written, one after another.
use Rattle.std.proofs.Common.{◌≡◌, ℕ, zero, suc, ◌+◌, ◌^◌, ◌<◌, min, List, [], ◌∷◌, Bool, refl, sym, subst, arith}
use Rattle.asn1_schema.specs.declared.part.Characters.{Characters}
use Rattle.asn1_schema.specs.declared.tables.Range.{Range}
use Rattle.asn1_schema.specs.CharactersOfParts.{characters_of}
use Rattle.asn1_schema.specs.Encodings.{Encoding, each, anywhere}
use Rattle.asn1_x691.specs.declared.fault.FaultKind.{FaultKind}
use Rattle.asn1_x691.specs.Alphabets.{IsIn}
use Rattle.asn1_x691.specs.Characters.{character, characters}
use Rattle.asn1_x691_fields.specs.declared.alphabets.Alphabet.{Alphabet}
use Rattle.asn1_x691_writers.specs.Written.{IsWritten}
use Rattle.asn1_x691_writers.specs.FieldSteps.{then_written}
use Rattle.asn1_x691_writers.specs.GrownSteps.{grown_none}
use Rattle.asn1_x691_writers.specs.Texts.{AreIn}

-- a character of an alphabet is small, so it is not cut
pub not_cut : (ranges : List Range) (x c : ℕ) → ((d : ℕ) → IsIn ranges d → d < 2 ^ 32) → c ≡ min x (2 ^ 32)
    → IsIn ranges x → c ≡ x
not_cut ranges x c small e p = let few = small x p in omega (arith, few, e)

pub is_character : (ranges : List Range) (x c : ℕ) → ((d : ℕ) → IsIn ranges d → d < 2 ^ 32) → c ≡ min x (2 ^ 32)
    → IsIn ranges c → c ≡ x
is_character ranges x c small e p = let few = small c p in omega (arith, few, e)

-- ---- what is written of the characters that are left is written of all

pub record IsUnderway (a : Alphabet) (table : List Range) (list : List Bool) (all : Characters) (was : List ℕ) (old : ℕ)
    (now : List ℕ) (at : ℕ) (left : Characters) : Type 0 where
  pub within : AreIn a.ranges.now (characters_of table list left)
  pub onward : (node : ℕ) (end : List ℕ) (new : ℕ)
      → IsWritten a.is_aligned (characters a.is_aligned a.ranges.now node left.count) (characters_of table list left) now at end new
      → IsWritten a.is_aligned (characters a.is_aligned a.ranges.now node all.count) (characters_of table list all) was old end new

one_more : (A : Encoding FaultKind ℕ) (aligned : Bool) (count rest x : ℕ) (xs whole : List ℕ) (was mid now : List ℕ) (old at new : ℕ)
    → suc rest ≡ count → x ∷ xs ≡ whole → IsWritten aligned (anywhere A) x was old mid at
    → IsWritten aligned (anywhere (each A rest)) xs mid at now new → IsWritten aligned (anywhere (each A count)) whole was old now new
one_more A aligned count rest x xs whole was mid now old at new e f a b =
    subst (λ (n : ℕ). IsWritten aligned (anywhere (each A n)) whole was old now new) e
    (subst (λ (l : List ℕ). IsWritten aligned (anywhere (each A (suc rest))) l was old now new) f
    (then_written aligned A (λ y ys. y ∷ ys) (λ y. each A rest) x xs was mid now old at new a b))

no_more : (A : Encoding FaultKind ℕ) (aligned : Bool) (count : ℕ) (whole : List ℕ) (was : List ℕ) (old : ℕ) → 0 ≡ count → [] ≡ whole
    → IsWritten aligned (anywhere (each A count)) whole was old was old
no_more A aligned count whole was old e f =
    subst (λ (n : ℕ). IsWritten aligned (anywhere (each A n)) whole was old was old) e
    (subst (λ (l : List ℕ). IsWritten aligned (anywhere (each A zero)) l was old was old) f
    (record { list = []; encodes = λ at h. (refl, refl); grown = grown_none was old }))

module _ (a : Alphabet) (table : List Range) (list : List Bool) (all : Characters) (was : List ℕ) (old : ℕ) where
  pub underway_first : AreIn a.ranges.now (characters_of table list all) → IsUnderway a table list all was old was old all
  underway_first p = record { within = p; onward = λ node end new w. w }

  pub underway_next : (now mid : List ℕ) (at next x : ℕ) (left others : Characters) → IsUnderway a table list all was old now at left
      → others.count + 1 ≡ left.count → characters_of table list left ≡ x ∷ characters_of table list others
      → ((node : ℕ) → IsWritten a.is_aligned (anywhere (character a.is_aligned a.ranges.now node)) x now at mid next)
      → IsUnderway a table list all was old mid next others
  underway_next now mid at next x left others u e f w = record {
    within = (subst (λ (l : List ℕ). AreIn a.ranges.now l) f u.within).1;
    onward = λ node end new b.
        u.onward node end new
        (one_more (character a.is_aligned a.ranges.now node) a.is_aligned left.count others.count x (characters_of table list others)
        (characters_of table list left) now mid end at next new (omega (arith, e)) (sym f) (w node) b);
  }

  pub underway_last : (now : List ℕ) (at node : ℕ) (left : Characters) → IsUnderway a table list all was old now at left
      → left.count ≡ 0 → characters_of table list left ≡ []
      → IsWritten a.is_aligned (characters a.is_aligned a.ranges.now node all.count) (characters_of table list all) was old now at
  underway_last now at node left u e f =
      u.onward node now at
      (no_more (character a.is_aligned a.ranges.now node) a.is_aligned left.count (characters_of table list left) now at (sym e) (sym f))
