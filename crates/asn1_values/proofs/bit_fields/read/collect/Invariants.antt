use Rattle.std.proofs.Common.{◌≡◌, ◌≤◌, List, Bool, length, drop, vec_len}
use Rattle.std.specs.Prelude.{vec_capacity}
use Rattle.asn1_bits.specs.BitReader.{view_left, bits_left}
use Rattle.asn1_values.specs.Fields.{AreSpelledBy}
use Rattle.asn1_values.specs.Plain.{plain_fields, plain_shapes, LieFrom}
use Rattle.asn1_values.specs.Steps.{past_all}
use Rattle.asn1_values.specs.Walk.{fields_at}
use Rattle.asn1_values.proofs.LiesLemmas.{after}
use Rattle.asn1_values.proofs.WalkLemmas.{with_front}
use Rattle.asn1_values.proofs.bit_fields.read.collect.Given as goal

-- the fields so far, and what is still to be read, are the whole result; so is a later error; and where they lie
abbrev pub invariant-loop-i : goal.invariant-loop-i
invariant-loop-i l = record {
  walk : with_front (plain_fields l.fields.items) (fields_at (plain_shapes (drop l.i l.shapes)) (bits_left l.reader))
      ≡ fields_at (plain_shapes l.shapes) (bits_left l.fn.reader);
  refused : past_all l.i (fields_at (plain_shapes (drop l.i l.shapes)) (bits_left l.reader))
      ≡ past_all 0 (fields_at (plain_shapes l.shapes) (bits_left l.fn.reader));
  places : LieFrom (view_left l.fn.reader) l.fields.items;
  rest : (front : List Bool) → AreSpelledBy (plain_fields l.fields.items) front
      → view_left l.reader ≡ after (view_left l.fn.reader) front;
  len : vec_len l.fields ≡ l.i;
  room : length l.shapes ≤ vec_capacity l.fields;
}
