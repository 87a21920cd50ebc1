use Rattle.std.proofs.Common.{◌≡◌, ℕ, ◌-◌, length, take, drop, ap, ◌∙◌, arith}
use Rattle.asn1_bits.specs.BitReader.{bits_left}
use Rattle.asn1_bits.specs.View.{View, part, list_of}
use Rattle.asn1_values.specs.declared.bit_fields.error.ReadError.TheVariants.{Short}
use Rattle.asn1_values.proofs.bit_fields.take.take_bits.Goals as goal

pub returns-then-left-need : goal.returns-then-left-need
returns-then-left-need c =
    let left : c.len-left.result ≡ length (bits_left c.args.reader.now) =
    c.len-left.ensures.list ∙ ap (λ (v : View). length (list_of v)) c.bits-view.ensures in
    record {
      taken = tt;
      short = (omega (arith, left), ap (λ (k : ℕ). Short c.args.field (c.args.need - k)) left);
    }

pub returns : goal.returns
returns c =
    let need = c.args.need in
    let old = c.bits-view.ensures in
    let parts = c.split_at.ensures in
    let left : c.len-left.result ≡ length (bits_left c.args.reader.now) =
    c.len-left.ensures.list ∙ ap (λ (v : View). length (list_of v)) old in
    record {
      taken = record {
        enough = omega (arith, left);
        view = c.new-2.ensures ∙ parts.front ∙ ap (λ (v : View). part v 0 need) old;
        list = ap list_of c.new-2.ensures ∙ parts.front_list ∙ ap (λ (v : View). take need (list_of v)) old;
        moved = c.new.ensures ∙ parts.back ∙ ap (λ (v : View). part v need (v.len - need)) old;
        rest = ap list_of c.new.ensures ∙ parts.back_list ∙ ap (λ (v : View). drop need (list_of v)) old;
      };
      short = tt;
    }
