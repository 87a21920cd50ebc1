use Rattle.std.proofs.Common.{◌≡◌, ℕ, ◌+◌, ◌-◌, ◌*◌, ◌^◌, ◌%◌, ◌<◌, ◌≤◌, ◌++◌, true, take, drop, sym, ◌∙◌, ap, subst, arith}
use Rattle.asn1_bits.specs.Bits.{bits}
use Rattle.asn1_bits.specs.Laws.DigitLaws.{length-bits}
use Rattle.asn1_schema.specs.declared.part.Fragments.{Fragments}
use Rattle.asn1_schema.specs.Encodings.{Starts}
use Rattle.asn1_schema.specs.PiecesOfParts.{bits_of, joined, whole_fragments}
use Rattle.asn1_x691.specs.Fragments.{string, most_fragments}
use Rattle.asn1_x691.specs.Laws.FragmentLaws.{all_held}
use Rattle.asn1_x691_fields.specs.Outcomes.{rest, position, fault_of}
use Rattle.asn1_x691_fields.specs.Steps.{moved_on, within_after}
use Rattle.asn1_x691_fields.specs.StringSteps.{none_read}
use Rattle.asn1_x691_fields.specs.StringSteps.{count_fault}
use Rattle.asn1_x691.specs.Fragments.{bits_of_units}
use Rattle.asn1_x691_fields.specs.FragmentSteps.{no_fragments_after, next_after, underway_begins, underway_goes_on, underway_number_fault, fuel_left}
use Rattle.asn1_x691_fields.proofs.fragments.next_in_fragments.Goals as goal

pub returns-in_err-count-clause-read : goal.returns-in_err-count-clause-read
returns-in_err-count-clause-read c =
    let list = bits c.args.octets.now in
    let new = c.next_number_of_units.new.state in
    none_read (string most_fragments c.args.is_aligned c.args.unit c.args.node) (λ (p : ℕ × Fragments). (p.0, joined c.args.unit list p.1)) list c.args.state.now new
    c.from_residual.result c.from_residual.ensures
    (count_fault (bits_of_units c.args.unit c.args.node) (λ a b. a ++ b) c.args.is_aligned c.args.node most_fragments (position c.args.state.now)
    (rest list c.args.state.now) (fault_of new) c.in_err-count.ensures.read)

pub loop-count-init : goal.loop-count-init
loop-count-init c =
    let list = bits c.args.octets.now in
    let new = c.next_number_of_units.new.state in
    let s = c.in_ok-count.ensures in
    record {
      within = within_after list c.args.state.now new c.requires.within (moved_on list c.args.state.now new s.onward);
      onward = s.onward;
      most = s.most;
      far = omega arith;
      place = λ large. sym (no_fragments_after c.args.unit new.at);
      inside = omega (arith, no_fragments_after c.args.unit new.at, s.onward.ends, s.onward.inside);
      octet = s.octet;
      underway = underway_begins c.args.unit c.args.is_aligned c.args.node list c.args.state.now c.requires.within new new.at c.in_ok-count.count
          s.onward s.read;
    }

pub returns-in_err-count-2-clause-read : goal.returns-in_err-count-2-clause-read
returns-in_err-count-2-clause-read c =
    let list = bits c.args.octets.now in
    let l = c.loop-count in
    let i = l.invariant in
    let mid = c.next_bits.new.state in
    let new = c.next_number_of_units-in-loop-count.new.state in
    let b = c.in_ok-next_bits.ensures in
    let at = c.next_number_of_units.new.state.at in
    let is : l.count ≡ 65536 = omega (arith, i.most, c.loop-count-test.true) in
    let moved : mid.at ≡ l.state.at + c.args.unit * 65536 =
    b.at.1 ∙ ap (λ (k : ℕ). k + c.args.unit * l.count) b.at.0 ∙ ap (λ (k : ℕ). l.state.at + c.args.unit * k) is in
    let far : mid.at < 2 ^ 64 = omega (arith, b.onward.ends, b.onward.inside, length-bits c.args.octets.now, c.requires.size) in
    let enough : 65536 * (l.whole + 1) ≤ mid.at = omega (arith, i.far, moved, c.requires.unit) in
    let read = subst (λ (k : ℕ). Starts (bits_of_units c.args.unit c.args.node l.count (position l.state)).encodes (rest list l.state)
    (take (c.args.unit * l.count) (drop k list)) (rest list mid)) b.at.0 b.read in
    none_read (string most_fragments c.args.is_aligned c.args.unit c.args.node) (λ (p : ℕ × Fragments). (p.0, joined c.args.unit list p.1)) list c.args.state.now new
    c.from_residual-in_err-count-2.result c.from_residual-in_err-count-2.ensures
    (underway_number_fault c.args.unit c.args.is_aligned c.args.node list c.args.state.now c.requires.within l.state mid at l.whole l.count i.within
    b.onward is (i.place c.loop-count-test.true) (fuel_left l.whole mid.at enough far) i.underway read (fault_of new) c.in_err-count-2.ensures.read)

pub loop-count-preserved : goal.loop-count-preserved
loop-count-preserved c =
    let list = bits c.args.octets.now in
    let l = c.loop-count in
    let i = l.invariant in
    let mid = c.next_bits.new.state in
    let new = c.next_number_of_units-in-loop-count.new.state in
    let b = c.in_ok-next_bits.ensures in
    let s = c.in_ok-count-2.ensures in
    let at = c.next_number_of_units.new.state.at in
    let is : l.count ≡ 65536 = omega (arith, i.most, c.loop-count-test.true) in
    let moved : mid.at ≡ l.state.at + c.args.unit * 65536 =
    b.at.1 ∙ ap (λ (k : ℕ). k + c.args.unit * l.count) b.at.0 ∙ ap (λ (k : ℕ). l.state.at + c.args.unit * k) is in
    let far : mid.at < 2 ^ 64 = omega (arith, b.onward.ends, b.onward.inside, length-bits c.args.octets.now, c.requires.size) in
    let enough : 65536 * (l.whole + 1) ≤ mid.at = omega (arith, i.far, moved, c.requires.unit) in
    let read = subst (λ (k : ℕ). Starts (bits_of_units c.args.unit c.args.node l.count (position l.state)).encodes (rest list l.state)
    (take (c.args.unit * l.count) (drop k list)) (rest list mid)) b.at.0 b.read in
    let place = i.place c.loop-count-test.true in
    let even : c.args.is_aligned ≡ true → mid.at % 8 ≡ 0 = λ e. let z = i.octet e in omega (arith, z, moved) in
    record {
      within = record {
        begins = omega (arith, i.within.begins, b.onward.same_first, s.onward.same_first, b.onward.on, s.onward.on);
        ends = s.onward.ends;
        inside = s.onward.inside;
      };
      onward = record {
        same_first = omega (arith, i.onward.same_first, b.onward.same_first, s.onward.same_first);
        same_end = omega (arith, i.onward.same_end, b.onward.same_end, s.onward.same_end);
        same_count = omega (arith, i.onward.same_count, b.onward.same_count, s.onward.same_count);
        on = omega (arith, i.onward.on, b.onward.on, s.onward.on);
        ends = s.onward.ends;
        inside = s.onward.inside;
      };
      most = s.most;
      far = omega (arith, i.far, moved, s.onward.on);
      place = λ large.
          let some : 16384 ≤ c.in_ok-count-2.count = omega (arith, large) in
          let here = s.at some even in
          let after = next_after c.args.unit at l.whole in
          omega (arith, here, moved, place, after);
      inside =
          let after = next_after c.args.unit at l.whole in
          omega (arith, after, place, moved, s.moved, s.onward.ends, s.onward.inside);
      octet = s.octet;
      underway = underway_goes_on c.args.unit c.args.is_aligned c.args.node list c.args.state.now c.requires.within l.state mid at l.whole l.count i.within
          b.onward is place (fuel_left l.whole mid.at enough far) i.underway read new c.in_ok-count-2.count s.onward s.read;
    }

pub returns-in_err-tail-clause-read : goal.returns-in_err-tail-clause-read
returns-in_err-tail-clause-read c =
    let list = bits c.args.octets.now in
    let l = c.loop-count in
    let new = c.next_tail.new.state in
    none_read (string most_fragments c.args.is_aligned c.args.unit c.args.node) (λ (p : ℕ × Fragments). (p.0, joined c.args.unit list p.1)) list c.args.state.now new
    c.from_residual-in_err-tail.result c.from_residual-in_err-tail.ensures
    (l.invariant.underway.fault (fault_of new) (c.in_err-tail.ensures.read (most_fragments - 1 - l.whole)))

pub returns-clause-read : goal.returns-clause-read
returns-clause-read c =
    let list = bits c.args.octets.now in
    let l = c.loop-count in
    let t = c.in_ok-tail.tail in
    l.invariant.underway.done (t.count, bits_of list t.middle ++ bits_of list t.last) (rest list c.next_tail.new.state)
    (c.in_ok-tail.ensures.read (most_fragments - 1 - l.whole))

pub overflow_add-result : goal.overflow_add-result
overflow_add-result c =
    omega (
      arith,
      c.loop-count.invariant.far,
      c.in_ok-tail.ensures.moved,
      c.in_ok-tail.ensures.onward.ends,
      c.in_ok-tail.ensures.onward.inside,
      length-bits c.args.octets.now,
      c.requires.size,
    )

pub returns-clause-inside : goal.returns-clause-inside
returns-clause-inside c = record {
  whole = c.loop-count.invariant.inside;
  middle = c.in_ok-tail.ensures.inside.0;
  last = c.in_ok-tail.ensures.inside.1;
}

pub returns-clause-all : goal.returns-clause-all
returns-clause-all c =
    let list = bits c.args.octets.now in
    let l = c.loop-count in
    let t = c.in_ok-tail.tail in
    let at = c.next_number_of_units.new.state.at in
    let s = l.invariant.underway.done (t.count, bits_of list t.middle ++ bits_of list t.last) (rest list c.next_tail.new.state)
    (c.in_ok-tail.ensures.read (most_fragments - 1 - l.whole)) in
    sym (all_held c.args.is_aligned c.args.unit c.args.node most_fragments (position c.args.state.now)
    (65536 * l.whole + t.count, whole_fragments c.args.unit list at l.whole ++ (bits_of list t.middle ++ bits_of list t.last)) s.front s.encoded).size
