-- Digits that are gathered into a word before they are pushed.
use Rattle.std.proofs.Common.{◌≡◌, ℕ, ◌+◌, ◌*◌, ◌/◌, ◌^◌, ◌<◌, ◌≤◌, ◌%◌, Bool, List, [], ◌∷◌, ◌++◌, length, refl, sym, ap, subst, ◌∙◌, append_assoc, arith}
use Rattle.std.specs.Prelude.{All}
use Rattle.std.specs.Int.{div_ceil}
use Rattle.std.proofs.lemmas.List.{length-append, append-nil}
use Rattle.std.proofs.lemmas.Nat.{pow-add, shr_high, mul-add-lt}
use Rattle.std.proofs.Math.Nat.{pow-le-pow_right}
use Rattle.asn1_bits.specs.Bits.{digits, bits}
use Rattle.asn1_bits.specs.Turns.{turns_for}
use Rattle.asn1_bits.specs.declared.bit_appender.BitAppender.{BitAppender}
use Rattle.asn1_bits.specs.BitAppender.{bits_written, room, lender_of, words_placed}
use Rattle.asn1_bits.specs.Laws.DigitLaws.{length-digits}
use Rattle.asn1_bits.specs.Laws.NumberLaws.{digits-append, digits-low}
use Rattle.asn1_values.specs.Fields.{Field, IsSpelledBy, AreSpelledBy, Number, Octets, Bits, Integer, Character, CountedInteger, Identifier}
use Rattle.asn1_values.specs.Steps.{TakesBits, PushesOne, PushesAll, PushesGathered, Gathers, PushesBehind, HasRoomFor, HasRoomBehind, HaveRoom, TakeTurns}
use Rattle.asn1_bits.specs.Joined.{AreJoined}
use Rattle.asn1_values.proofs.JoinedLemmas.{joins_push, joins_append, joins_split, Split}
use Rattle.asn1_values.proofs.SpellingLemmas.{number_fits, octets_fit, bits_fit, integer_fits, character_fits, counted_fits, identifier_fits, all_taken}

-- ---- all encodings of a field are as long

pub as_long : (field : Field) (a b : List Bool) → IsSpelledBy field a → IsSpelledBy field b → length b ≡ length a
as_long (Number v w) a b s t = let f = number_fits v w s.0 s.1 in f.len b t ∙ sym (f.len a s)
as_long (Octets o) a b s t = let f = octets_fit o s.0 in f.len b t ∙ sym (f.len a s)
as_long (Bits view) a b s t = let f = bits_fit view in f.len b t ∙ sym (f.len a s)
as_long (Integer n) a b s t = let f = integer_fits n s.0 s.1 in f.len b t ∙ sym (f.len a s)
as_long (Character x c) a b s t = let f = character_fits x c s.0 s.1 in f.len b t ∙ sym (f.len a s)
as_long (CountedInteger n) a b s t = let f = counted_fits n s.0 s.1 s.2 in f.len b t ∙ sym (f.len a s)
as_long (Identifier arcs) a b s t = let f = identifier_fits arcs s.0 s.1 s.2 in f.len b t ∙ sym (f.len a s)

pub all_as_long : (fields : List Field) (a b : List Bool) → AreSpelledBy fields a → AreSpelledBy fields b
    → length b ≡ length a
all_as_long [] a b s t = ap length t ∙ sym (ap length s)
all_as_long (field ∷ fields) a b s t =
    let one = as_long field s.0 t.0 s.2 t.2 in
    let rest = all_as_long fields s.1 t.1 s.3 t.3 in
    let m = ap length s.4 ∙ length-append s.0 s.1 in
    let n = ap length t.4 ∙ length-append t.0 t.1 in
    omega arith

-- ---- digits after those of a word

-- both are the digits of one number
pub digits_behind : (word width number more : ℕ) → number < 2 ^ more
    → digits (word * 2 ^ more + number) (width + more) ≡ digits word width ++ digits number more
digits_behind word width number more lt =
    digits-append (word * 2 ^ more + number) width more
    ∙ ap (λ (n : ℕ). digits n width ++ digits (word * 2 ^ more + number) more) (shr_high word more number lt)
    ∙ ap (λ (l : List Bool). digits word width ++ l) (digits-low word number more)

pub below_behind : (word width number more : ℕ) → word < 2 ^ width → number < 2 ^ more
    → word * 2 ^ more + number < 2 ^ (width + more)
below_behind word width number more lt below =
    let p = pow-add 2 more width in
    let e : more + width ≡ width + more = omega arith in
    rw (← e, p) (mul-add-lt word (2 ^ more) number (2 ^ width) lt below)

-- a word that is moved loses none of its digits
pub word_behind : (word width number more : ℕ) → word < 2 ^ width → number < 2 ^ more → width + more ≤ 64
    → (word * 2 ^ more % 18446744073709551616 ≡ word * 2 ^ more)
    × (word * 2 ^ more + number < 2 ^ (width + more))
    × (word * 2 ^ more + number < 18446744073709551616)
word_behind word width number more lt below fits =
    let b = below_behind word width number more lt below in
    let up : 2 ^ (width + more) ≤ 2 ^ 64 = pow-le-pow_right {n = 2} (omega arith) {i = width + more} {j = 64} fits in
    (omega arith, b, omega arith)

-- of the digits of a word a front was pushed, in its turns; the digits of the new word are the rest
pub record PushesFront (old new : BitAppender) (word width word_new width_new turns_old turns_new : ℕ) : Type 0 where
  pub lender : lender_of new ≡ lender_of old
  pub front : List Bool
  pub written : bits_written new ≡ bits_written old ++ front
  pub left : room new + length front ≡ room old
  pub parts : front ++ digits word_new width_new ≡ digits word width
  pub each_turn_places : turns_new + words_placed old ≡ turns_old + words_placed new
  pub at_least : turns_old + div_ceil (length front) 64 ≤ turns_new
  pub at_most : turns_new + turns_for width_new ≤ turns_old + turns_for width

-- none are
pub front_none : (old : BitAppender) (word width turns : ℕ) → PushesFront old old word width word width turns turns
front_none old word width turns = record {
  lender = refl;
  front = [];
  written = sym (append-nil (bits_written old));
  left = omega arith;
  parts = refl;
  each_turn_places = refl;
  at_least = omega arith;
  at_most = omega arith;
}

-- all are
pub front_all : (old new : BitAppender) (word width none zero_width turns_old turns_new : ℕ)
    → PushesGathered old new word width zero_width turns_old turns_new
    → PushesFront old new word width none zero_width turns_old turns_new
unfolding digits
front_all old new word width none zero_width turns_old turns_new p =
    let n = length-digits word width in
    let d = p.pushed in
    let z = p.none in
    record {
      lender = d.lender;
      front = digits word width;
      written = d.written;
      left = d.left;
      parts = subst (λ (k : ℕ). digits word width ++ digits none k ≡ digits word width) (sym z)
          (append-nil (digits word width));
      each_turn_places = d.each_turn_places;
      at_least = d.at_least;
      at_most = let a = d.at_most in omega arith;
    }

pub gathered_more : (old now : BitAppender) (word width mid_word mid_width number more turns_old turns_new : ℕ)
    → PushesFront old now word width mid_word mid_width turns_old turns_new → number < 2 ^ more → more ≤ 32
    → mid_width + more ≤ 64
    → Gathers (digits number more) old now word width (mid_word * 2 ^ more + number) (mid_width + more) turns_old turns_new
gathered_more old now word width mid_word mid_width number more turns_old turns_new p lt few fits = record {
  lender = p.lender;
  front = p.front;
  written = p.written;
  left = p.left;
  parts = ap (λ (l : List Bool). p.front ++ l) (digits_behind mid_word mid_width number more lt)
      ∙ sym (append_assoc p.front (digits mid_word mid_width) (digits number more))
      ∙ ap (λ (l : List Bool). l ++ digits number more) p.parts;
  each_turn_places = p.each_turn_places;
  at_least = p.at_least;
  at_most = let a = p.at_most in let n = length-digits number more in omega arith;
}

-- a word of no digits is pushed by doing nothing
pub no_digits : (old : BitAppender) (word width zero_width turns : ℕ) → width ≡ 0 → zero_width ≡ 0
    → PushesGathered old old word width zero_width turns turns
unfolding digits
no_digits old word width zero_width turns w z = record {
  pushed = record {
    lender = refl;
    written = sym (append-nil (bits_written old))
        ∙ ap (λ (k : ℕ). bits_written old ++ digits word k) (sym w);
    left = rw w (omega arith);
    each_turn_places = refl;
    at_least = rw w (omega arith);
    at_most = rw w (omega arith);
  };
  none = z;
}

-- the digits are pushed, and then a field of its own
pub field_behind : (field : Field) (old now new : BitAppender) (word width none zero_width turns_old turns_now turns_new : ℕ)
    → PushesGathered old now word width zero_width turns_old turns_now
    → PushesOne field now new turns_now turns_new
    → PushesBehind field old new word width none zero_width turns_old turns_new
unfolding digits
field_behind field old now new word width none zero_width turns_old turns_now turns_new p one =
    let d = p.pushed in
    let n = length-append (digits word width) one.list in
    let m = length-digits word width in
    record {
      list = one.list;
      spelled = one.spelled;
      taken = record {
        lender = one.lender ∙ d.lender;
        front = digits word width ++ one.list;
        written = one.written ∙ ap (λ (l : List Bool). l ++ one.list) d.written
            ∙ append_assoc (bits_written old) (digits word width) one.list;
        left = let a = d.left in let b = one.left in omega arith;
        parts = subst
            (λ (k : ℕ). (digits word width ++ one.list) ++ digits none k ≡ digits word width ++ one.list)
            (sym p.none)
            (append-nil (digits word width ++ one.list));
        each_turn_places = let a = d.each_turn_places in let b = one.each_turn_places in omega arith;
        at_least = let a = d.at_least in let b = one.at_least in omega arith;
        at_most = let a = d.at_most in let b = one.at_most in let z = p.none in omega arith;
      };
    }

-- and there is room for it
pub room_behind : (field : Field) (old now : BitAppender) (word width zero_width turns_old turns_now : ℕ)
    → PushesGathered old now word width zero_width turns_old turns_now
    → HasRoomBehind field width (room old) → HasRoomFor field (room now)
room_behind field old now word width zero_width turns_old turns_now p r = record {
  some = r.some;
  each = λ list s. let a = r.each list s in let b = p.pushed.left in let n = length-digits word width in omega arith;
}

-- ---- fields one after another

-- the encodings of the fields were taken: a front of them was pushed, in its turns, and the digits of
-- a word are the rest
pub record Gathering (fields : List Field) (old now : BitAppender) (word width turns_old turns_now : ℕ) : Type 0 where
  pub lender : lender_of now ≡ lender_of old
  pub front : List Bool
  pub spelled : AreSpelledBy fields (front ++ digits word width)
  pub written : bits_written now ≡ bits_written old ++ front
  pub left : room now + length front ≡ room old
  pub each_turn_places : turns_now + words_placed old ≡ turns_old + words_placed now
  pub at_least : turns_old + div_ceil (length front) 64 ≤ turns_now
  pub at_most : turns_now + turns_for width ≤ turns_old + (length front + width) / 64 + 8 * length fields

pub gathering_none : (old : BitAppender) (word width turns : ℕ) → width ≡ 0 → Gathering [] old old word width turns turns
unfolding digits
gathering_none old word width turns z = record {
  lender = refl;
  front = [];
  spelled = ap (λ (k : ℕ). digits word k) z;
  written = sym (append-nil (bits_written old));
  left = omega arith;
  each_turn_places = refl;
  at_least = omega arith;
  at_most = omega arith;
}

pub gathering_more : (before : List Field) (field : Field) (old now new : BitAppender)
    (word width word_new width_new turns_old turns_now turns_new : ℕ)
    → Gathering before old now word width turns_old turns_now
    → PushesBehind field now new word width word_new width_new turns_now turns_new
    → Gathering (before ++ field ∷ []) old new word_new width_new turns_old turns_new
gathering_more before field old now new word width word_new width_new turns_old turns_now turns_new g one =
    let t = one.taken in
    let whole : (g.front ++ t.front) ++ digits word_new width_new ≡ (g.front ++ digits word width) ++ one.list =
    append_assoc g.front t.front (digits word_new width_new)
    ∙ ap (λ (l : List Bool). g.front ++ l) t.parts
    ∙ sym (append_assoc g.front (digits word width) one.list) in
    let n = length-append g.front t.front in
    let m : length t.front + width_new ≡ width + length one.list =
    omega (
      arith,
      length-append t.front (digits word_new width_new),
      length-append (digits word width) one.list,
      length-digits word_new width_new,
      length-digits word width,
      ap length t.parts,
    ) in
    record {
      lender = t.lender ∙ g.lender;
      front = g.front ++ t.front;
      spelled =
          subst (λ (l : List Bool). AreSpelledBy (before ++ field ∷ []) l) (sym whole)
          (joins_push IsSpelledBy before field (g.front ++ digits word width) one.list g.spelled one.spelled);
      written = t.written ∙ ap (λ (l : List Bool). l ++ t.front) g.written
          ∙ append_assoc (bits_written old) g.front t.front;
      left = let a = g.left in let b = t.left in omega arith;
      each_turn_places = let a = g.each_turn_places in let b = t.each_turn_places in omega arith;
      at_least = let a = g.at_least in let b = t.at_least in omega arith;
      at_most =
          let a = g.at_most in
          let b = t.at_most in
          let f = length-append before (field ∷ []) in
          omega arith;
    }

-- what is gathered fits the room
pub gathering_fits : (fields : List Field) (old now : BitAppender) (word width turns_old turns_now : ℕ)
    → HaveRoom fields (room old)
    → Gathering fields old now word width turns_old turns_now → width ≤ room now
gathering_fits fields old now word width turns_old turns_now h g =
    let r = h.each (g.front ++ digits word width) (all_taken fields (g.front ++ digits word width) g.spelled) in
    omega (arith, g.left, length-append g.front (digits word width), length-digits word width)

-- all of it is pushed
module _ (fields : List Field) (old now new : BitAppender)
    (word width zero_width turns_old turns_now turns_new : ℕ)
    (g : Gathering fields old now word width turns_old turns_now)
    (p : PushesGathered now new word width zero_width turns_now turns_new) where
  pub gathered_all : PushesAll fields old new
  gathered_all = record {
    list = g.front ++ digits word width;
    spelled = g.spelled;
    written = p.pushed.written ∙ ap (λ (l : List Bool). l ++ digits word width) g.written
        ∙ append_assoc (bits_written old) g.front (digits word width);
    left =
        let a = g.left in
        let b = p.pushed.left in
        let c = length-digits word width in
        let d = length-append g.front (digits word width) in
        omega arith;
  }

  pub gathered_turns : TakeTurns fields turns_old turns_new
  gathered_turns =
      let d = length-append g.front (digits word width) in
      let e = length-digits word width in
      record {
        at_least = λ list s.
            let same = all_as_long fields (g.front ++ digits word width) list g.spelled s in
            let a = g.at_least in
            let b = p.pushed.at_least in
            omega arith;
        at_most = λ list s.
            let same = all_as_long fields (g.front ++ digits word width) list g.spelled s in
            let a = g.at_most in
            let b = p.pushed.at_most in
            omega arith;
      }

module _ (fields before after : List Field) (field : Field) (cut : fields ≡ before ++ field ∷ after) where
  -- after those that were taken is room for this one
  pub gathering_room : (old now : BitAppender) (word width turns_old turns_now : ℕ) → HaveRoom fields (room old)
      → Gathering before old now word width turns_old turns_now → HasRoomBehind field width (room now)
  gathering_room old now word width turns_old turns_now h g =
      let p : Split TakesBits before (field ∷ after) h.list =
      joins_split TakesBits before (field ∷ after) h.list
      (subst (λ (fs : List Field). AreJoined TakesBits fs h.list) cut h.joined) in
      let rest : List Bool = p.of_back.1 in
      let here : List Bool = g.front ++ digits word width in
      record {
        some = (p.of_back.0, p.of_back.2);
        each = λ list l.
            let whole : AreJoined TakesBits (before ++ field ∷ after) (here ++ (list ++ rest)) =
            joins_append TakesBits before (field ∷ after) here (list ++ rest) (all_taken before here g.spelled)
            (list, rest, l, p.of_back.3, refl) in
            let r =
            h.each (here ++ (list ++ rest))
            (subst (λ (fs : List Field). AreJoined TakesBits fs (here ++ (list ++ rest))) (sym cut) whole) in
            omega (
              arith,
              g.left,
              length-append here (list ++ rest),
              length-append list rest,
              length-append g.front (digits word width),
              length-digits word width,
            );
      }

-- ---- room

-- a field for which there is room after others has no more bits than that
pub space_behind : (field : Field) (list : List Bool) (n width space : ℕ) → TakesBits field list → length list ≡ n
    → HasRoomBehind field width space → width + n ≤ space
space_behind field list n width space s len r = let a = r.each list s in omega arith

pub width_behind : (field : Field) (width space : ℕ) → HasRoomBehind field width space → width ≤ space
width_behind field width space r = let a = r.each r.some.0 r.some.1 in omega arith

-- ---- octets, by their bits

pub octets_room : (octets : List ℕ) (width space : ℕ) → All (λ octet. octet < 256) octets
    → HasRoomBehind (Octets octets) width space → HasRoomBehind (Bits (bits octets)) width space
octets_room octets width space are r = record {
  some = (bits octets, refl);
  each = λ list s. r.each list (are, s);
}

pub octets_behind : (octets : List ℕ) (old new : BitAppender)
    (word width word_new width_new turns_old turns_new : ℕ) → All (λ octet. octet < 256) octets
    → PushesBehind (Bits (bits octets)) old new word width word_new width_new turns_old turns_new
    → PushesBehind (Octets octets) old new word width word_new width_new turns_old turns_new
octets_behind octets old new word width word_new width_new turns_old turns_new are p =
    record { list = p.list; spelled = (are, p.spelled); taken = p.taken }
