use Rattle.std.proofs.Common.{◌≡◌, ℕ, ◌-◌, ◌^◌, ◌<◌, ◌≤◌, List, length, take, ◌++◌, Bool, ap, ◌∙◌, arith, rules}
use Rattle.std.proofs.lemmas.Grind.{common_steps}
use Rattle.asn1_bits.specs.Bits.{AddsNoOctet}
use Rattle.asn1_values.specs.Fields.{Field}
use Rattle.asn1_values.specs.Plain.{plain_fields}
use Rattle.asn1_values.specs.Steps.{TakesBits, EndsAt, CanBeAppended, CanBeRefused}
use Rattle.asn1_values.proofs.SpellingLemmas.{all_taken, cut_back}
use Rattle.asn1_values.proofs.bit_fields.write.append_all.Goals as goal

-- fields that end there can be appended after the start
appendable : (fields : List Field) (start end : ℕ) → EndsAt TakesBits start fields end → end < 2 ^ 64
    → CanBeAppended fields start (end - start)
appendable fields start end ends small =
    let capped = ends.capped in
    record {
      room = record {
        list = ends.list;
        joined = ends.joined;
        each = λ others j. omega (arith, ends.each others j);
      };
      all = λ list s. let e = ends.each list (all_taken fields list s) in omega arith;
      fits = let e = ends.each ends.list ends.joined in omega arith;
    }

-- if the room for them takes memory, an octet is added
grown : (fields : List Field) (start additional old : ℕ) → start ≡ old → CanBeAppended fields start additional
    → (AddsNoOctet old additional → ⊥) → CanBeRefused old fields
grown fields start additional old same can more = λ list s lt.
    let e = can.all list s in grind (arith, common_steps, same, e, more)

pub appender-requires : goal.appender-requires
appender-requires c =
    let can =
    appendable (plain_fields c.args.fields.now) c.len-len.result c.in_ok-end.end c.in_ok-end.ensures (omega arith) in
    omega (arith, c.len-len.ensures, can.fits)

pub returns-in_default : goal.returns-in_default
returns-in_default c =
    let can =
    appendable (plain_fields c.args.fields.now) c.len-len.result c.in_ok-end.end c.in_ok-end.ensures (omega arith) in
    record {
      written = tt;
      fits = tt;
      counted = tt;
      refused =
          grown (plain_fields c.args.fields.now) c.len-len.result (c.in_ok-end.end - c.len-len.result)
          (length c.args.buffer.now) c.len-len.ensures can
          (λ same. grind (arith, c.in_default.ensures.free same));
      unchanged = search rules;
      uncounted = search rules;
    }

pub push_all-requires : goal.push_all-requires
push_all-requires c =
    let can =
    appendable (plain_fields c.args.fields.now) c.len-len.result c.in_ok-end.end c.in_ok-end.ensures (omega arith) in
    rw c.in-Ok.ensures.room can.room

pub returns-in-None : goal.returns-in-None
returns-in-None c =
    let k = c.push_all.ensures.kept in
    let cut : take (length c.args.buffer.now) c.push_all.new.appender.target.buffer.now ≡ c.args.buffer.now =
    cut_back _ c.args.buffer.now k.0 _ (k.1 ∙ ap (λ (l : List Bool). l ++ k.0) c.in-Ok.ensures.written) in
    record {
      written = tt;
      fits = tt;
      counted = tt;
      refused = λ list s lt. absurd (c.in-None.ensures.lacking list s);
      unchanged = grind (arith, common_steps);
      uncounted = search rules;
    }

pub returns-in-Some : goal.returns-in-Some
returns-in-Some c =
    let can =
    appendable (plain_fields c.args.fields.now) c.len-len.result c.in_ok-end.end c.in_ok-end.ensures (omega arith) in
    let p = c.in-Some.ensures.pushed in
    let t = c.in-Some.ensures.counted in
    record {
      written = (p.list, p.spelled, grind (arith, common_steps));
      fits = λ list s. omega (arith, c.len-len.ensures, can.all list s, can.fits);
      counted = record {
        at_least = λ list s. omega (arith, t.at_least list s, c.add.ensures, c.new-taken.ensures);
        at_most = λ list s. omega (arith, t.at_most list s, c.add.ensures, c.new-taken.ensures);
      };
      refused = tt;
      unchanged = tt;
      uncounted = tt;
    }
