-- The type of the next value, and strings of characters.
use Rattle.std.proofs.Common.{◌≡◌, ℕ, zero, suc, ◌+◌, ◌-◌, ◌*◌, ◌<◌, List, [], ◌∷◌, ◌++◌, length, refl, sym, ap, ◌∙◌, append_assoc, subst, arith, Bool, true, false, Result, Ok, Err, append-nil, length-append, Option, Some, None, take}
use Rattle.std.specs.Prelude.{slice_get, slice_range}
use Rattle.std.proofs.Math.Seq.{take-length}
use Rattle.std.proofs.lemmas.Option.{slice_get-get_or}
use Rattle.asn1_schema.specs.declared.part.Part.{Part}
use Rattle.asn1_schema.specs.declared.tables.Node.TheVariants as type
use Rattle.asn1_schema_values.specs.Extents.{AreValues, HasValues}
use Rattle.asn1_builder.specs.declared.frame.Frame.{Frame}
use Rattle.std.specs.Int.{to_be_bytes, w32}
use Rattle.asn1_schema.specs.declared.tables.Node.{Node}
use Rattle.asn1_builder.specs.declared.error.BuildError.{BuildError}
use Rattle.asn1_builder.specs.declared.error.BuildError.TheVariants.{OtherType}
use Rattle.asn1_builder.specs.declared.kind.Kind.{Kind}
use Rattle.asn1_schema.specs.declared.tables.Tables.{Tables}
use Rattle.asn1_builder.specs.Drafts.{Draft, innermost, type_through, value_type}
use Rattle.asn1_builder.specs.Kinds.{is_of_kind}
use Rattle.asn1_builder.specs.Steps.{IsStep, by_type, expected_of, if_expected, if_few, if_of_kind, octets_of}

-- one step through an open type
pub through : (t : Tables) (left at : ℕ) → 0 < left
    → type_through left t at ≡ value_type (type_through (left - 1) t) (slice_get t.nodes.now at)
through t zero at some = absurd (omega arith)
through t (suc n) at some =
    let less : n ≡ suc n - 1 = omega arith in
    ap (λ (k : ℕ). value_type (type_through k t) (slice_get t.nodes.now at)) less

-- an error changes nothing
pub refuses : (s : Result Draft BuildError) (e : BuildError) (old : Draft) (r : Result Unit BuildError) → s ≡ Err e → r ≡ Err e
    → IsStep s r old old
refuses s e old r is same = subst (λ (x : Result Draft BuildError). IsStep x r old old) (sym is) (same, refl)

-- what is not expected is rejected
if_expected_err : (b : Bool) (done : Draft) (e : BuildError) → if_expected b ≡ Err e → if_of_kind b done ≡ Err e
if_expected_err true done e is = cc
if_expected_err false done e is = let same : OtherType ≡ e = cc in ap (λ (x : BuildError). Err x) same

pub refused : (k : Kind) (r : Result Node BuildError) (done : Draft) (e : BuildError) → expected_of k r ≡ Err e → by_type k r done ≡ Err e
refused k (Err x) done e is = let same : x ≡ e = cc in ap (λ (y : BuildError). Err y) same
refused k (Ok n) done e is = if_expected_err (is_of_kind k n) done e is

if_few_err : (b : Bool) (e : BuildError) → if_few b (Err e) ≡ Err e
if_few_err true e = refl
if_few_err false e = refl

pub refused_few : (b : Bool) (k : Kind) (r : Result Node BuildError) (done : Draft) (e : BuildError) → expected_of k r ≡ Err e
    → if_few b (by_type k r done) ≡ Err e
refused_few b k r done e is = ap (if_few b) (refused k r done e is) ∙ if_few_err b e

-- what is expected is put
if_expected_ok : (b : Bool) (done : Draft) (x : Unit {0}) → if_expected b ≡ Ok x → if_of_kind b done ≡ Ok done
if_expected_ok true done x is = refl
if_expected_ok false done x is = cc

pub accepted : (k : Kind) (r : Result Node BuildError) (done : Draft) (x : Unit {0}) → expected_of k r ≡ Ok x → by_type k r done ≡ Ok done
accepted k (Err e) done x is = cc
accepted k (Ok n) done x is = if_expected_ok (is_of_kind k n) done x is

-- a character more
pub octets_more : (xs : List ℕ) (c : ℕ) → octets_of (xs ++ c ∷ []) ≡ octets_of xs ++ to_be_bytes w32 c
octets_more [] c = append-nil (to_be_bytes w32 c)
octets_more (x ∷ xs) c =
    ap (λ (l : List ℕ). to_be_bytes w32 x ++ l) (octets_more xs c)
    ∙ sym (append_assoc (to_be_bytes w32 x) (octets_of xs) (to_be_bytes w32 c))

pub length-octets : (xs : List ℕ) → length (octets_of xs) ≡ 4 * length xs
length-octets [] = refl
length-octets (x ∷ xs) =
    let rest = length-octets xs in
    let sum = length-append (to_be_bytes w32 x) (octets_of xs) in
    let four : length (to_be_bytes w32 x) ≡ 4 = refl in
    omega arith

-- a type that is no open type is the type of the value
pub not_open : (inside : ℕ → Option Node) (n : Node) → ((x : ℕ) → n ≡ type.Open x → ⊥) → value_type inside (Some n) ≡ Some n
not_open inside (type.Open x) never = absurd (never x refl)
not_open inside n never = refl

-- nothing is begun
pub innermost_none : (frames : List Frame) → innermost frames ≡ None → frames ≡ []
innermost_none [] is = refl
innermost_none (f ∷ frames) is =
    let inside : length (f ∷ frames) - 1 < length (f ∷ frames) = omega arith in
    let there = slice_get-get_or (f ∷ frames) (length (f ∷ frames) - 1) f inside in
    cc

-- all parts are one value
pub whole_value : (parts : List Part) → AreValues 1 parts → HasValues parts 0 1 (length parts)
whole_value parts are =
    let all : length parts - 0 ≡ length parts = omega arith in
    let same : slice_range parts 0 (length parts) ≡ parts = ap (λ (n : ℕ). take n parts) all ∙ take-length parts in
    let P : List Part → Type 0 = λ xs. AreValues 1 xs in
    record { ordered = omega arith; within = omega arith; values = subst P (sym same) are }

pub is_value : (parts : List Part) (end : ℕ) → HasValues parts 0 1 end → end ≡ length parts → AreValues 1 parts
is_value parts end has e =
    let all : end - 0 ≡ length parts = omega arith in
    let same : slice_range parts 0 end ≡ parts = ap (λ (n : ℕ). take n parts) all ∙ take-length parts in
    let P : List Part → Type 0 = λ xs. AreValues 1 xs in
    subst P same has.values

-- octets of characters that have room
pub has_room : (old count most : ℕ) (cs items : List ℕ) → count ≡ length cs → items ≡ octets_of cs → old + 4 * count < most
    → old + length items < most
has_room old count most cs items size is few =
    let lengths = length-octets cs in
    let same = ap length is in
    omega arith
