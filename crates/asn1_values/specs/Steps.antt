-- How the steps of the calls are stated. No public contract cites this.
use Rattle.std.specs.Prelude.{◌≡◌, ℕ, ◌+◌, ◌-◌, ◌*◌, ◌/◌, ◌^◌, ◌<◌, ◌≤◌, Bool, List, [], ◌∷◌, ◌++◌, length, take, drop, min, Result, Ok, Err, OnOk, IfOk, IfErr, IsOk, Vec, vec_items, vec_len, vec_capacity, ◌≢◌, Option, OnSome, IfNone}
use Rattle.std.specs.Int.{div_ceil}
use Rattle.asn1_bits.specs.declared.bit_appender.BitAppender.{BitAppender}
use Rattle.asn1_bits.specs.declared.bit_reader.BitReader.{BitReader}
use Rattle.asn1_bits.specs.BitReader.{view_left, bits_left}
use Rattle.asn1_bits.specs.View.{part}
use Rattle.asn1_bits.specs.Bits.{overwritten, octets_for, digits}
use Rattle.asn1_bits.specs.Turns.{turns_for}
use Rattle.asn1_bits.specs.BitAppender.{bits_written, room, lender_of, words_placed}
use Rattle.asn1_values.specs.declared.bit_fields.error.ReadError.{ReadError}
use Rattle.asn1_values.specs.declared.bit_fields.error.ReadError.TheVariants as reading
use Rattle.asn1_values.specs.declared.bit_fields.error.WriteError.{WriteError}
use Rattle.asn1_values.specs.declared.bit_fields.error.WriteError.TheVariants as writing
use Rattle.asn1_values.specs.declared.bit_fields.field.Field.{Field as InMemory}
use Rattle.asn1_values.specs.Fields.{Field, Shape, IsSpelledBy, AreSpelledBy, Character, OfCountedInteger}
use Rattle.asn1_bits.specs.Joined.{AreJoined}
use Rattle.asn1_values.specs.Plain.{plain_field, plain_fields, LiesAt, LieFrom}
use Rattle.asn1_values.specs.Walk.{field_at, fields_at}
use Rattle.asn1_values.specs.Refusals.{IsWriteRefusal}
use Rattle.asn1_values.specs.Wrong.{Fault, NumberWidth, NotInteger, Short, NoCharacter, NoLength, NotIdentifier, ArcOver, WidthOver, PastWidth, NotInAlphabet, PastLength, TooFewArcs, IsCount, first_octet, IsMisfit, IsFirstMisfit, Fits}

-- ---- reading

-- the error that names a fault and its field
abbrev pub error_at : ℕ → Fault → ReadError
error_at field (NumberWidth width) = reading.NumberWidth field width
error_at field NotInteger = reading.Integer field
error_at field (Short bits) = reading.Short field bits
error_at field (NoCharacter code) = reading.Character field code
error_at field (NoLength octet) = reading.Length field octet
error_at field NotIdentifier = reading.Identifier field
error_at field ArcOver = reading.Arc field

-- what is left after a field, or the error
abbrev pub past : ℕ → Result (Field × List Bool) Fault → Result (List Bool) ReadError
past i (Ok x) = Ok x.1
past i (Err fault) = Err (error_at i fault)

-- what is left after fields, of which the first is at this index
abbrev pub past_all : ℕ → Result (List Field × List Bool) (ℕ × Fault) → Result (List Bool) ReadError
past_all i (Ok x) = Ok x.1
past_all i (Err e) = Err (error_at (i + e.0) e.1)

-- the reader moved past n bits of its storage
abbrev pub Moves : ℕ → BitReader → BitReader → Type 0
Moves n old new = view_left new ≡ part (view_left old) n ((view_left old).len - n)

-- the first n bits were taken from those that were left
pub record Takes (n : ℕ) (old new front : BitReader) : Type 0 where
  pub enough : n ≤ length (bits_left old)
  pub view : view_left front ≡ part (view_left old) 0 n
  pub list : bits_left front ≡ take n (bits_left old)
  pub moved : Moves n old new
  pub rest : bits_left new ≡ drop n (bits_left old)

-- `n` bits were taken, or the error says how many are missing
pub record Cuts (n at : ℕ) (old new : BitReader) (result : Result BitReader ReadError) : Type 0 where
  pub taken : IfOk result (Takes n old new)
  pub short : IfErr result (λ e. (length (bits_left old) < n) × (e ≡ reading.Short at (n - length (bits_left old))))

-- an octet was taken that can count the octets of an integer
pub record CountIsTaken (old new : BitReader) (octets : ℕ) : Type 0 where
  pub enough : 8 ≤ length (bits_left old)
  pub counted : octets ≡ first_octet (bits_left old)
  pub is : IsCount octets
  pub moved : Moves 8 old new
  pub rest : bits_left new ≡ drop 8 (bits_left old)

-- an octet was taken so, or the error names the fault of a counted integer
pub record TakesCount (at : ℕ) (old new : BitReader) (result : Result ℕ ReadError) : Type 0 where
  pub taken : IfOk result (CountIsTaken old new)
  pub err : IfErr result (λ e. past at (field_at OfCountedInteger (bits_left old)) ≡ Err e)

-- a counted integer was taken, and its octets are the front
pub record TakesCounted (old new front : BitReader) : Type 0 where
  pub octets : ℕ
  pub counted : octets ≡ first_octet (bits_left old)
  pub len : (view_left front).len ≡ 8 * octets
  pub list : bits_left front ≡ take (8 * octets) (drop 8 (bits_left old))
  pub moved : Moves (8 + 8 * octets) old new
  pub rest : bits_left new ≡ drop (8 * octets) (drop 8 (bits_left old))

-- a field was skipped, or the error names its fault
pub record Examines {A : Type 0} (at : ℕ) (read : Result (Field × List Bool) Fault) (new : BitReader)
    (result : Result A ReadError) : Type 0 where
  pub ok : OnOk result (past at read ≡ Ok (bits_left new))
  pub err : IfErr result (λ e. past at read ≡ Err e)

-- a field was skipped, and its bits were taken so, or the error names its fault
pub record ExaminesBits (Taken : BitReader → Type 0) (at : ℕ) (read : Result (Field × List Bool) Fault) (new : BitReader)
    (result : Result BitReader ReadError) : Type 0 where
  pub examined : Examines at read new result
  pub taken : IfOk result Taken

-- a field of the shape and of n bits was skipped, and is made of the value, or the error names its
-- fault
pub record ExaminesValue (field_of : ℕ → Field) (n at : ℕ) (shape : Shape) (old new : BitReader) (result : Result ℕ ReadError)
    : Type 0 where
  pub examined : Examines at (field_at shape (bits_left old)) new result
  pub read : IfOk result (λ value. field_at shape (bits_left old) ≡ Ok (field_of value, bits_left new))
  pub moved : OnOk result (Moves n old new)

-- a field of each shape was skipped, or the error names the first fault
pub record ExaminesAll (shapes : List Shape) (old : BitReader) (result : Result Unit ReadError) : Type 0 where
  pub ok : OnOk result (IsOk (fields_at shapes (bits_left old)))
  pub err : IfErr result (λ e. past_all 0 (fields_at shapes (bits_left old)) ≡ Err e)

-- a field of the shape was read from the front of the bits that were left, and is after the
-- others
pub record Appends (shape : Shape) (old new : BitReader) (before after : List InMemory) : Type 0 where
  pub field : InMemory
  pub appended : after ≡ before ++ field ∷ []
  pub read : field_at shape (bits_left old) ≡ Ok (plain_field field, bits_left new)
  pub place : LiesAt (view_left old) (view_left old).first field
  pub rest : (list : List Bool) → IsSpelledBy (plain_field field) list
      → view_left new ≡ part (view_left old) (length list) ((view_left old).len - length list)

-- the next field was read so, without growth; or the error names the fault of the field at this
-- index, unless out of memory
pub record AppendsNext {Z : Type 0} (shape : Shape) (at : ℕ) (old new : BitReader) (before after : Vec InMemory Z)
    (result : Result Unit ReadError) : Type 0 where
  pub read : OnOk result (Appends shape old new (vec_items before) (vec_items after))
  pub len : OnOk result (vec_len after ≡ vec_len before + 1)
  pub capacity : OnOk result (vec_capacity after ≡ vec_capacity before)
  pub err : IfErr result (λ e. e ≢ reading.Memory → past at (field_at shape (bits_left old)) ≡ Err e)

-- a field of each shape was read; or the error names the first fault, unless memory was wanting
pub record Collects {Z : Type 0} (shapes : List Shape) (old new : BitReader) (result : Result (Vec InMemory Z) ReadError)
    : Type 0 where
  pub fields : IfOk result (λ fields. fields_at shapes (bits_left old) ≡ Ok (plain_fields (vec_items fields), bits_left new))
  pub places : IfOk result (λ fields. LieFrom (view_left old) (vec_items fields))
  pub rest : IfOk result (λ fields. (front : List Bool) → AreSpelledBy (plain_fields (vec_items fields)) front
      → view_left new ≡ part (view_left old) (length front) ((view_left old).len - length front))
  pub err : IfErr result (λ e. e ≢ reading.Memory → past_all 0 (fields_at shapes (bits_left old)) ≡ Err e)
  pub no_shapes : shapes ≡ [] → IsOk result

-- ---- writing

-- the error names the misfit of the field at this index
abbrev pub NamesMisfit : ℕ → Field → WriteError → Type 0
NamesMisfit i field (writing.NumberWidth at width) = (at ≡ i) × IsMisfit field (WidthOver width)
NamesMisfit i field (writing.Number at) = (at ≡ i) × IsMisfit field PastWidth
NamesMisfit i field (writing.Character at character) = (at ≡ i) × IsMisfit field (NotInAlphabet character)
NamesMisfit i field (writing.IntegerLength at) = (at ≡ i) × IsMisfit field PastLength
NamesMisfit i field (writing.ArcCount at) = (at ≡ i) × IsMisfit field TooFewArcs
NamesMisfit i field writing.TooLong = ⊥
NamesMisfit i field writing.Memory = ⊥

-- the error names the first field that doesn't fit, with its reason
abbrev pub NamesFirstMisfit : List Field → WriteError → Type 0
NamesFirstMisfit fields (writing.NumberWidth at width) = IsFirstMisfit fields at (WidthOver width)
NamesFirstMisfit fields (writing.Number at) = IsFirstMisfit fields at PastWidth
NamesFirstMisfit fields (writing.Character at character) = IsFirstMisfit fields at (NotInAlphabet character)
NamesFirstMisfit fields (writing.IntegerLength at) = IsFirstMisfit fields at PastLength
NamesFirstMisfit fields (writing.ArcCount at) = IsFirstMisfit fields at TooFewArcs
NamesFirstMisfit fields writing.TooLong = ⊥
NamesFirstMisfit fields writing.Memory = ⊥

-- how a field is encoded, or takes bits
abbrev pub Spelling : Type 1
Spelling = Field → List Bool → Type 0

-- the field takes the bits: they encode it, or they are as many as encode a character of its
-- alphabet, which may lack it
abbrev pub TakesBits : Spelling
TakesBits (Character alphabet c) list = length list ≡ alphabet.width
TakesBits field list = IsSpelledBy field list

-- the field has bits of such a kind, n of them
pub record HasLength (P : Spelling) (field : Field) (n : ℕ) : Type 0 where
  pub some : (list : List Bool) × P field list
  pub len : (list : List Bool) → P field list → length list ≡ n

-- the field fits, in n bits
abbrev pub FitsIn : Field → ℕ → Type 0
FitsIn field n = HasLength IsSpelledBy field n

-- the field fits, in as many bits as the result says, or the error names its misfit
pub record Measures (at : ℕ) (field : Field) (result : Result ℕ WriteError) : Type 0 where
  pub ok : IfOk result (FitsIn field)
  pub err : IfErr result (NamesMisfit at field)

-- the fields all have bits of such a kind, with them the start becomes an end, and n is the end, or
-- the greatest number that the sum takes
pub record EndsAt (P : Spelling) (start : ℕ) (fields : List Field) (n : ℕ) : Type 0 where
  pub end : ℕ
  pub list : List Bool
  pub joined : AreJoined P fields list
  pub each : (others : List Bool) → AreJoined P fields others → start + length others ≡ end
  pub capped : n ≡ min end (2 ^ 128 - 1)

-- the fields fit, and end there after the start; or the error names the first that doesn't fit
pub record MeasuresAll (start : ℕ) (fields : List Field) (result : Result ℕ WriteError) : Type 0 where
  pub ok : IfOk result (EndsAt IsSpelledBy start fields)
  pub err : IfErr result (NamesFirstMisfit fields)

-- there is room for the bits of one field, which has some
pub record HasRoomFor (field : Field) (space : ℕ) : Type 0 where
  pub some : (list : List Bool) × TakesBits field list
  pub each : (list : List Bool) → TakesBits field list → length list ≤ space

-- there is room for the bits of the fields, which all have some
pub record HaveRoom (fields : List Field) (space : ℕ) : Type 0 where
  pub list : List Bool
  pub joined : AreJoined TakesBits fields list
  pub each : (others : List Bool) → AreJoined TakesBits fields others → length others ≤ space

-- there is room for the bits of one field, which has some, after `width` bits of others
pub record HasRoomBehind (field : Field) (width space : ℕ) : Type 0 where
  pub some : (list : List Bool) × TakesBits field list
  pub each : (list : List Bool) → TakesBits field list → width + length list ≤ space

-- if the fields are encoded, and the new length fits, then an octet is added to n bits
abbrev pub CanBeRefused : ℕ → List Field → Type 0
CanBeRefused n fields = (list : List Bool) → AreSpelledBy fields list → n + length list < 2 ^ 64
    → octets_for n < octets_for (n + length list)

-- the error is one of writing the fields after n bits, and there is no other but `Memory`; if all fit,
-- it tells whether the new length does
pub record IsTheRefusal (n : ℕ) (fields : List Field) (error : WriteError) : Type 0 where
  pub refusal : IsWriteRefusal n fields error
  pub named : (e : WriteError) → e ≢ writing.Memory → IsWriteRefusal n fields e → error ≡ e
  pub too_long : (list : List Bool) → AreSpelledBy fields list → 2 ^ 64 ≤ n + length list → error ≡ writing.TooLong
  pub memory : (list : List Bool) → AreSpelledBy fields list → n + length list < 2 ^ 64 → error ≡ writing.Memory

-- the encodings of the fields were pushed, one after another
pub record PushesAll (fields : List Field) (old new : BitAppender) : Type 0 where
  pub list : List Bool
  pub spelled : AreSpelledBy fields list
  pub written : bits_written new ≡ bits_written old ++ list
  pub left : room new + length list ≡ room old

-- the list was pushed, in turns for its bits, each of which placed a word, and the storage is the same
pub record PushesList (list : List Bool) (old new : BitAppender) (turns_old turns_new : ℕ) : Type 0 where
  pub lender : lender_of new ≡ lender_of old
  pub written : bits_written new ≡ bits_written old ++ list
  pub left : room new + length list ≡ room old
  pub each_turn_places : turns_new + words_placed old ≡ turns_old + words_placed new
  pub at_least : turns_old + div_ceil (length list) 64 ≤ turns_new
  pub at_most : turns_new ≤ turns_old + turns_for (length list)

-- the encoding of the field was pushed, in its turns, and the storage is the same
pub record PushesOne (field : Field) (old new : BitAppender) (turns_old turns_new : ℕ) : Type 0 where
  pub list : List Bool
  pub spelled : IsSpelledBy field list
  pub lender : lender_of new ≡ lender_of old
  pub written : bits_written new ≡ bits_written old ++ list
  pub left : room new + length list ≡ room old
  pub each_turn_places : turns_new + words_placed old ≡ turns_old + words_placed new
  pub at_least : turns_old + div_ceil (length list) 64 ≤ turns_new
  pub at_most : turns_new ≤ turns_old + length list / 64 + 8

-- the digits of the old word were pushed so, and the new word has none
pub record PushesGathered (old new : BitAppender) (word width width_new turns_old turns_new : ℕ) : Type 0 where
  pub pushed : PushesList (digits word width) old new turns_old turns_new
  pub none : width_new ≡ 0

-- the list was appended to the gathered word; what no longer fitted was pushed, in its turns
pub record Gathers (list : List Bool) (old new : BitAppender) (word width word_new width_new turns_old turns_new : ℕ)
    : Type 0 where
  pub lender : lender_of new ≡ lender_of old
  pub front : List Bool
  pub written : bits_written new ≡ bits_written old ++ front
  pub left : room new + length front ≡ room old
  pub parts : front ++ digits word_new width_new ≡ digits word width ++ list
  pub each_turn_places : turns_new + words_placed old ≡ turns_old + words_placed new
  pub at_least : turns_old + div_ceil (length front) 64 ≤ turns_new
  pub at_most : turns_new + turns_for width_new ≤ turns_old + turns_for width + length list / 64 + 8

-- the encoding of the field was taken so
pub record PushesBehind (field : Field) (old new : BitAppender)
    (word width word_new width_new turns_old turns_new : ℕ) : Type 0 where
  pub list : List Bool
  pub spelled : IsSpelledBy field list
  pub taken : Gathers list old new word width word_new width_new turns_old turns_new

-- nothing was pushed, since the field does not fit
pub record PushesNone (field : Field) (old new : BitAppender) : Type 0 where
  pub lender : lender_of new ≡ lender_of old
  pub kept : bits_written new ≡ bits_written old
  pub lacking : Fits field → ⊥

-- the encoding of the field was taken so; or nothing was pushed, since the field does not fit
pub record PushesIfFits (field : Field) (old new : BitAppender)
    (word width word_new width_new turns_old turns_new : ℕ) (result : Option Unit) : Type 0 where
  pub pushed : OnSome result (PushesBehind field old new word width word_new width_new turns_old turns_new)
  pub refused : IfNone result (PushesNone field old new)

-- turns were taken for the fields, whichever list encodes them
pub record TakeTurns (fields : List Field) (old new : ℕ) : Type 0 where
  pub at_least : (list : List Bool) → AreSpelledBy fields list → old + div_ceil (length list) 64 ≤ new
  pub at_most : (list : List Bool) → AreSpelledBy fields list → new ≤ old + length list / 64 + 8 * length fields

-- the fields can be appended to n bits: `additional` more hold them, each list that encodes them
-- is as long, and usize counts the sum
pub record CanBeAppended (fields : List Field) (n additional : ℕ) : Type 0 where
  pub room : HaveRoom fields additional
  pub all : (list : List Bool) → AreSpelledBy fields list → length list ≡ additional
  pub fits : n + additional < 2 ^ 64

-- the encodings of the fields were appended, in their turns; or nothing has changed, and the fields
-- can fail
pub record AppendsFields (fields : List Field) (old new : List Bool) (turns_old turns_new : ℕ) (result : Option Unit)
    : Type 0 where
  pub written : OnSome result ((list : List Bool) × AreSpelledBy fields list × (new ≡ old ++ list))
  pub fits : OnSome result ((list : List Bool) → AreSpelledBy fields list → length old + length list < 2 ^ 64)
  pub counted : OnSome result (TakeTurns fields turns_old turns_new)
  pub refused : IfNone result (CanBeRefused (length old) fields)
  pub unchanged : IfNone result (new ≡ old)
  pub uncounted : IfNone result (turns_new ≡ turns_old)

-- the encodings of the fields were pushed, in their turns; or some bits, since a field does not fit
pub record PushesAllIfFit (fields : List Field) (old new : BitAppender) (turns_old turns_new : ℕ)
    (result : Option Unit) : Type 0 where
  pub lender : lender_of new ≡ lender_of old
  pub kept : (list : List Bool) × (bits_written new ≡ bits_written old ++ list)
  pub pushed : OnSome result (PushesAll fields old new)
  pub counted : OnSome result (TakeTurns fields turns_old turns_new)
  pub each_turn_places : OnSome result (turns_new + words_placed old ≡ turns_old + words_placed new)
  pub lacking : IfNone result ((list : List Bool) → AreSpelledBy fields list → ⊥)

-- ---- writing over the old bits

-- bits that end at the index end within n bits, and usize counts it
abbrev pub IsReached : ℕ → ℕ → Type 0
IsReached n place = (place ≤ n) × (place < 2 ^ 64)

-- a word holds `width` digits, and from an index on they are within n bits
pub record DigitsFit (n place width : ℕ) : Type 0 where
  pub few : width ≤ 128
  pub within : IsReached n (place + width)

-- the field fits, and its bits from an index on are within n bits
pub record FitsWithin (n place : ℕ) (field : Field) : Type 0 where
  pub fits : Fits field
  pub within : (list : List Bool) → IsSpelledBy field list → IsReached n (place + length list)

-- the fields all fit, and with them from an index on n bits are reached
pub record EndWithin (n place : ℕ) (fields : List Field) : Type 0 where
  pub list : List Bool
  pub spelled : AreSpelledBy fields list
  pub within : (others : List Bool) → AreSpelledBy fields others → IsReached n (place + length others)

-- the list was written over the bits from an index on, up to the next index
pub record WritesOver (list : List Bool) (place : ℕ) (old new : List Bool) (next : ℕ) : Type 0 where
  pub written : new ≡ overwritten old place list
  pub end : next ≡ place + length list

-- the encoding of the field was written over them
abbrev pub Overwrites : Field → ℕ → List Bool → List Bool → ℕ → Type 0
Overwrites field place old new next = (list : List Bool) × IsSpelledBy field list × WritesOver list place old new next

-- the encodings of the fields were written over them, one after another
abbrev pub OverwritesAll : List Field → ℕ → List Bool → List Bool → ℕ → Type 0
OverwritesAll fields place old new next =
    (list : List Bool) × AreSpelledBy fields list × WritesOver list place old new next
