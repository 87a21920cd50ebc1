-- Fields that fit, one after another, and the first that doesn't.
use Rattle.std.proofs.Common.{◌≡◌, ℕ, ◌+◌, ◌-◌, ◌*◌, ◌/◌, ◌^◌, ◌<◌, ◌≤◌, Bool, List, [], ◌∷◌, ◌++◌, length, take, drop, min, get_or, refl, sym, ap, subst, ◌∙◌, append_assoc, arith, Some, slice_get}
use Rattle.std.specs.Prelude.{All, ℤ}
use Rattle.std.specs.Int.{div_ceil}
use Rattle.asn1_bits.specs.Turns.{turns_for}
use Rattle.asn1_number.specs.Octets.{IsShortest}
use Rattle.asn1_oid.specs.Contents.{IsContents, FitU32}
use Rattle.asn1_oid.specs.Laws.WritingLaws.{contents_only}
use Rattle.asn1_alphabets.specs.Alphabet.{Alphabet, IsCode}
use Rattle.asn1_values.specs.Laws.SpellingLaws.{same_shortest}
use Rattle.std.specs.Option.{option_map}
use Rattle.std.proofs.lemmas.List.{length-append, map_more, map-append, take-map, take-append-drop, drop_more}
use Rattle.std.proofs.lemmas.Nat.{pow_pos}
use Rattle.std.proofs.Math.Nat.{lt-div-mul-add}
use Rattle.std.proofs.Math.Seq.{take-append_seam}
use Rattle.std.proofs.lemmas.Option.{same_Some, slice_get_read, slice_get-map}
use Rattle.asn1_bits.specs.Bits.{digits, bits}
use Rattle.asn1_bits.specs.declared.bit_appender.BitAppender.{BitAppender}
use Rattle.asn1_bits.specs.BitAppender.{bits_written, room, lender_of, words_placed}
use Rattle.asn1_bits.specs.Laws.DigitLaws.{length-digits, length-bits}
use Rattle.asn1_values.specs.declared.bit_fields.error.WriteError.{WriteError}
use Rattle.asn1_values.specs.declared.bit_fields.error.WriteError.TheVariants as errors
use Rattle.asn1_values.specs.declared.bit_fields.field.Field.{Field as Program}
use Rattle.asn1_values.specs.Plain.{plain_field, plain_fields}
use Rattle.asn1_values.specs.Fields.{Field, IsSpelledBy, AreSpelledBy, Number, Octets, Bits, Integer, Character, CountedInteger, Identifier}
use Rattle.asn1_values.specs.Wrong.{Misfit, WidthOver, PastWidth, NotInAlphabet, PastLength, TooFewArcs, Fits, IsMisfit, IsFirstMisfit}
use Rattle.asn1_values.specs.Steps.{NamesMisfit, NamesFirstMisfit, Spelling, TakesBits, HasLength, FitsIn, EndsAt, HasRoomFor, PushesList, PushesOne}
use Rattle.asn1_bits.specs.Joined.{AreJoined}
use Rattle.asn1_values.proofs.JoinedLemmas.{joins_push, joins_split, one_joined, each_joined, slice_get_take, some_at, Split}

-- ---- one field

pub number_fits : (value width : ℕ) → width ≤ 128 → value < 2 ^ width → FitsIn (Number value width) width
number_fits value width le lt =
    record { some = (digits value width, (le, lt, refl)); len = λ list s. ap length s.2 ∙ length-digits value width }

pub octets_fit : (octets : List ℕ) → All (λ octet. octet < 256) octets → FitsIn (Octets octets) (8 * length octets)
octets_fit octets are = record { some = (bits octets, (are, refl)); len = λ list s. ap length s.1 ∙ length-bits octets }

pub bits_fit : (view : List Bool) → FitsIn (Bits view) (length view)
bits_fit view = record { some = (view, refl); len = λ list s. ap length s }

pub integer_fits : (n : ℤ) (octets : List ℕ) → IsShortest n octets → FitsIn (Integer n) (8 * length octets)
integer_fits n octets shortest = record {
  some = (bits octets, (octets, shortest, refl));
  len = λ list s. ap length s.2 ∙ length-bits s.0
      ∙ ap (λ (o : List ℕ). 8 * length o) (same_shortest n s.0 octets s.1 shortest);
}

pub character_fits : (a : Alphabet) (c k : ℕ) → IsCode a c k → FitsIn (Character a c) a.width
character_fits a c k code =
    record { some = (digits k a.width, (k, code, refl)); len = λ list s. ap length s.2 ∙ length-digits s.0 a.width }

pub counted_fits : (n : ℤ) (octets : List ℕ) → IsShortest n octets → length octets ≤ 127
    → FitsIn (CountedInteger n) (8 + 8 * length octets)
counted_fits n octets shortest le = record {
  some = (bits (length octets ∷ octets), (octets, shortest, le, refl));
  len = λ list s.
      let same : list ≡ bits (length octets ∷ octets) = s.3
      ∙ ap (λ (o : List ℕ). bits (length o ∷ o)) (same_shortest n s.0 octets s.1 shortest) in
      omega (arith, ap length same, length-bits (length octets ∷ octets));
}

pub identifier_fits : (arcs octets : List ℕ) → IsContents arcs octets → FitU32 arcs
    → FitsIn (Identifier arcs) (8 * length octets)
identifier_fits arcs octets contents fit = record {
  some = (bits octets, (octets, contents, fit, refl));
  len = λ list s. ap length s.3 ∙ length-bits s.0
      ∙ ap (λ (o : List ℕ). 8 * length o) (contents_only arcs s.0 octets s.1 contents);
}

-- what has a misfit has no encoding
misfit_unfit : (field : Field) (misfit : Misfit) → IsMisfit field misfit → Fits field → ⊥
misfit_unfit (Number v w) (WidthOver x) m f = let a = m.1 in let b = f.1.0 in omega arith
misfit_unfit (Number v w) PastWidth m f = let a = m.1 in let b = f.1.1 in omega arith
misfit_unfit (Character a c) (NotInAlphabet x) m f = m.1 f.1.0 f.1.1
misfit_unfit (CountedInteger n) PastLength m f =
    let same : length m.0 ≡ length f.1.0 = ap length (same_shortest n m.0 f.1.0 m.1 f.1.1) in
    let le = f.1.2 in
    let lt = m.2 in
    omega arith
misfit_unfit (Identifier arcs) TooFewArcs m f = let two = f.1.1.two in omega arith
misfit_unfit field misfit m f = absurd m

-- ---- the first misfit

first_misfit : (fields : List Field) (front : List Bool) (i : ℕ) (field : Field) (misfit : Misfit)
    → AreSpelledBy (take i fields) front → i < length fields → slice_get fields i ≡ Some field → IsMisfit field misfit
    → IsFirstMisfit fields i misfit
first_misfit fields front i field misfit before lt here is =
    record {
      wrong =
          λ other e fits. misfit_unfit field misfit is
          (subst (λ (f : Field). Fits f) (same_Some other field (sym e ∙ here)) fits);
      least =
          λ j other j_lt e. each_joined IsSpelledBy (take i fields) front j other before
          (slice_get_take fields i j j_lt ∙ e);
      within = lt;
      reason = λ other e. subst (λ (f : Field). IsMisfit f misfit) (same_Some field other (sym here ∙ e)) is;
    }

pub names_first : (fields : List Field) (front : List Bool) (i : ℕ) (field : Field) (e : WriteError)
    → AreSpelledBy (take i fields) front → i < length fields → slice_get fields i ≡ Some field → NamesMisfit i field e
    → NamesFirstMisfit fields e
names_first fields front i field (errors.NumberWidth at width) before lt here is =
    subst (λ (k : ℕ). IsFirstMisfit fields k (WidthOver width)) (sym is.0)
    (first_misfit fields front i field (WidthOver width) before lt here is.1)
names_first fields front i field (errors.Number at) before lt here is =
    subst (λ (k : ℕ). IsFirstMisfit fields k PastWidth) (sym is.0)
    (first_misfit fields front i field PastWidth before lt here is.1)
names_first fields front i field (errors.Character at c) before lt here is =
    subst (λ (k : ℕ). IsFirstMisfit fields k (NotInAlphabet c)) (sym is.0)
    (first_misfit fields front i field (NotInAlphabet c) before lt here is.1)
names_first fields front i field (errors.IntegerLength at) before lt here is =
    subst (λ (k : ℕ). IsFirstMisfit fields k PastLength) (sym is.0)
    (first_misfit fields front i field PastLength before lt here is.1)
names_first fields front i field (errors.ArcCount at) before lt here is =
    subst (λ (k : ℕ). IsFirstMisfit fields k TooFewArcs) (sym is.0)
    (first_misfit fields front i field TooFewArcs before lt here is.1)
names_first fields front i field errors.TooLong before lt here is = absurd is
names_first fields front i field errors.Memory before lt here is = absurd is

none_misfit : (fields : List Field) (i : ℕ) (misfit : Misfit) (list : List Bool) → IsFirstMisfit fields i misfit
    → AreSpelledBy fields list → ⊥
none_misfit fields i misfit list m s =
    let f = some_at fields i m.within in
    m.wrong f.0 f.1 (each_joined IsSpelledBy fields list i f.0 s f.1)

-- where all fit, no error names a misfit
pub names_none : (fields : List Field) (e : WriteError) (list : List Bool) → NamesFirstMisfit fields e
    → AreSpelledBy fields list → ⊥
names_none fields (errors.NumberWidth at width) list h s = none_misfit fields at (WidthOver width) list h s
names_none fields (errors.Number at) list h s = none_misfit fields at PastWidth list h s
names_none fields (errors.Character at c) list h s = none_misfit fields at (NotInAlphabet c) list h s
names_none fields (errors.IntegerLength at) list h s = none_misfit fields at PastLength list h s
names_none fields (errors.ArcCount at) list h s = none_misfit fields at TooFewArcs list h s
names_none fields errors.TooLong list h s = h
names_none fields errors.Memory list h s = h

-- ---- fields that take bits, whether or not they are encoded

-- what encodes a field, it takes
pub spelled_taken : (field : Field) (list : List Bool) → IsSpelledBy field list → TakesBits field list
spelled_taken (Number value width) list s = s
spelled_taken (Octets octets) list s = s
spelled_taken (Bits view) list s = s
spelled_taken (Integer n) list s = s
spelled_taken (Character a c) list s = ap length s.2 ∙ length-digits s.0 a.width
spelled_taken (CountedInteger n) list s = s
spelled_taken (Identifier arcs) list s = s

pub all_taken : (fields : List Field) (list : List Bool) → AreSpelledBy fields list → AreJoined TakesBits fields list
all_taken [] list s = s
all_taken (field ∷ fields) list s =
    (s.0, s.1, spelled_taken field s.0 s.2, all_taken fields s.1 s.3, s.4)

-- a character takes as many bits as its alphabet's width
pub character_taken : (a : Alphabet) (c : ℕ) → HasLength TakesBits (Character a c) a.width
character_taken a c = record { some = (digits 0 a.width, length-digits 0 a.width); len = λ list s. s }

-- ---- the length that fields lead to

module _ (P : Spelling) where
  pub ends_none : (start : ℕ) → start < 2 ^ 64 → EndsAt P start [] start
  ends_none start lt =
      record {
        end = start;
        list = [];
        joined = refl;
        each = λ others s. let e : length others ≡ 0 =
            ap length s in omega arith;
        capped = omega arith;
      }

  pub ends_more : (start n k m : ℕ) (fields : List Field) (field : Field) → EndsAt P start fields n
      → HasLength P field k → m ≡ min (n + k) (2 ^ 128 - 1) → EndsAt P start (fields ++ field ∷ []) m
  ends_more start n k m fields field e f sum =
      record {
        end = e.end + k;
        list = e.list ++ f.some.0;
        joined = joins_push P fields field e.list f.some.0 e.joined f.some.1;
        each = λ others s.
            let p : Split P fields (field ∷ []) others = joins_split P fields (field ∷ []) others s in
            let a = e.each p.front p.of_front in
            let b = f.len p.back (one_joined P field p.back p.of_back) in
            let l : length others ≡ length p.front + length p.back = ap length p.parts ∙ length-append p.front p.back in
            omega arith;
        capped = let c = e.capped in omega arith;
      }

pub below_width : (value width : ℕ) → value / 2 ^ width ≡ 0 → value < 2 ^ width
below_width value width e = let p =
    lt-div-mul-add {a = value} {b = 2 ^ width} (pow_pos width) in let q : value / 2 ^ width * 2 ^ width ≡ 0 =
    rw e (omega arith) in omega arith

pub at_128 : (value width : ℕ) → width ≤ 128 → 128 ≤ width → value < 2 ^ 128 → value < 2 ^ width
at_128 value width le ge lt = let e : width ≡ 128 = omega arith in rw e lt

-- ---- pushing one field, and fields one after another

-- a field for which there is room has no more bits than that
pub space_of : (field : Field) (list : List Bool) (n space : ℕ) → TakesBits field list → length list ≡ n
    → HasRoomFor field space → n ≤ space
space_of field list n space s len enough = let r = enough.each list s in omega arith

-- a list of n bits was pushed, in turns for them
pub list_pushed : (list : List Bool) (n : ℕ) (old new : BitAppender) (turns_old turns_new : ℕ) → length list ≡ n
    → lender_of new ≡ lender_of old → bits_written new ≡ bits_written old ++ list → room new + n ≡ room old
    → turns_new + words_placed old ≡ turns_old + words_placed new
    → turns_old + div_ceil n 64 ≤ turns_new → turns_new ≤ turns_old + turns_for n
    → PushesList list old new turns_old turns_new
list_pushed list n old new turns_old turns_new len lender written left each low high = record {
  lender = lender;
  written = written;
  left = rw len left;
  each_turn_places = each;
  at_least = rw len low;
  at_most = rw len high;
}

-- and it encodes a field
pub one_pushed : (field : Field) (list : List Bool) (old new : BitAppender) (turns_old turns_new : ℕ)
    → IsSpelledBy field list → PushesList list old new turns_old turns_new
    → PushesOne field old new turns_old turns_new
one_pushed field list old new turns_old turns_new spelled p = record {
  list = list;
  spelled = spelled;
  lender = p.lender;
  written = p.written;
  left = p.left;
  each_turn_places = p.each_turn_places;
  at_least = p.at_least;
  at_most = let a = p.at_most in omega arith;
}

-- ---- a counted integer: an octet, and octets after it

-- all of it fits the room
pub counted_space : (n : ℤ) (octets : List ℕ) (space : ℕ) → IsShortest n octets → HasRoomFor (CountedInteger n) space
    → (length octets ≤ 127) × (8 + 8 * length octets ≤ space)
counted_space n octets space shortest enough =
    let fits = enough.some in
    let same : length fits.1.0 ≡ length octets = ap length (same_shortest n fits.1.0 octets fits.1.1 shortest) in
    let small = fits.1.2 in
    let le : length octets ≤ 127 = omega arith in
    let len = length-bits (length octets ∷ octets) in
    let r = enough.each (bits (length octets ∷ octets)) (octets, shortest, le, refl) in
    (le, omega arith)

-- the octet was pushed, and then the others
pub counted_pushed : (n : ℤ) (octets : List ℕ) (old now new : BitAppender) (turns_old turns_now turns_new : ℕ)
    → IsShortest n octets → length octets ≤ 127 → PushesList (digits (length octets) 8) old now turns_old turns_now
    → PushesList (bits octets) now new turns_now turns_new
    → PushesOne (CountedInteger n) old new turns_old turns_new
unfolding bits
counted_pushed n octets old now new turns_old turns_now turns_new shortest le one two =
    let all = length-bits (length octets ∷ octets) in
    let rest = length-bits octets in
    let first = length-digits (length octets) 8 in
    record {
      list = bits (length octets ∷ octets);
      spelled = (octets, shortest, le, refl);
      lender = two.lender ∙ one.lender;
      written = two.written ∙ ap (λ (l : List Bool). l ++ bits octets) one.written
          ∙ append_assoc (bits_written old) (digits (length octets) 8) (bits octets);
      left = let a = one.left in let b = two.left in omega arith;
      each_turn_places = let a = one.each_turn_places in let b = two.each_turn_places in omega arith;
      at_least = let a = one.at_least in let b = two.at_least in omega arith;
      at_most = let a = one.at_most in let b = two.at_most in omega arith;
    }

-- bits that were pushed are cut off again
pub cut_back : (bits old pushed : List Bool) (n : ℕ) → take n bits ≡ old ++ pushed → take (length old) bits ≡ old
cut_back bits old pushed n e =
    let parts : bits ≡ old ++ (pushed ++ drop n bits) = sym (take-append-drop n bits)
    ∙ ap (λ (l : List Bool). l ++ drop n bits) e ∙ append_assoc old pushed (drop n bits) in
    ap (take (length old)) parts ∙ take-append_seam old (pushed ++ drop n bits)

module _ (fields before after : List Field) (field : Field) (cut : fields ≡ before ++ field ∷ after) where
  -- the fields are encoded, and so is each
  pub field_fits : (list : List Bool) → AreSpelledBy fields list → Fits field
  field_fits list s =
      let p : Split IsSpelledBy before (field ∷ after) list =
      joins_split IsSpelledBy before (field ∷ after) list
      (subst (λ (fs : List Field). AreSpelledBy fs list) cut s) in
      (p.of_back.0, p.of_back.2)

  -- the encoding of this one lies after those before it
  pub parts_of : (list : List Bool) → AreSpelledBy fields list → (a : List Bool) × (b : List Bool) × AreSpelledBy before a
      × IsSpelledBy field b × (length a + length b ≤ length list)
  parts_of list s =
      let p : Split IsSpelledBy before (field ∷ after) list =
      joins_split IsSpelledBy before (field ∷ after) list
      (subst (λ (fs : List Field). AreSpelledBy fs list) cut s) in
      let of_back = p.of_back in (
        p.front,
        of_back.0,
        p.of_front,
        of_back.2,
        omega (
          arith,
          ap length p.parts,
          length-append p.front p.back,
          ap length of_back.4,
          length-append of_back.0 of_back.1,
        ),
      )

-- ---- fields of the program, by their indices

pub cut_of : (fs : List Program) (i : ℕ) (x : Program) → i < length fs → x ≡ get_or fs i x
    → plain_fields fs ≡ plain_fields (take i fs) ++ plain_field x ∷ plain_fields (drop (i + 1) fs)
cut_of fs i x lt is =
    let e : fs ≡ take i fs ++ x ∷ drop (i + 1) fs = sym (take-append-drop i fs)
    ∙ ap (λ (l : List Program). take i fs ++ l)
    (drop_more fs i x lt ∙ ap (λ (y : Program). y ∷ drop (i + 1) fs) (sym is)) in
    ap plain_fields e ∙ map-append plain_field (take i fs) (x ∷ drop (i + 1) fs)

pub more_of : (fs : List Program) (i : ℕ) (x : Program) → i < length fs → x ≡ get_or fs i x
    → plain_fields (take (i + 1) fs) ≡ plain_fields (take i fs) ++ plain_field x ∷ []
more_of fs i x lt is = map_more plain_field fs i x lt
    ∙ ap (λ (y : Program). plain_fields (take i fs) ++ plain_field y ∷ []) (sym is)

pub here_of : (fs : List Program) (i : ℕ) (x : Program) → i < length fs → x ≡ get_or fs i x
    → slice_get (plain_fields fs) i ≡ Some (plain_field x)
here_of fs i x lt is = slice_get-map plain_field fs i
    ∙ ap (option_map plain_field) (slice_get_read fs (length fs) i x refl lt is)

pub take_of : (fs : List Program) (i : ℕ) → take i (plain_fields fs) ≡ plain_fields (take i fs)
take_of fs i = take-map plain_field i fs
