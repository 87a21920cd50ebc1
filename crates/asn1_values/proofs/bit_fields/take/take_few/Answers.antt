use Rattle.std.proofs.Common.{◌≡◌, ℕ, ◌+◌, ◌-◌, ◌<◌, ◌≤◌, Result, Ok, Err, OnOk, IfOk, IfErr, length, take, drop, refl, ap, ◌∙◌, arith, rules}
use Rattle.std.specs.Prelude.{◌↔◌, IsErr, IsErrAnd, MatchResult}
use Rattle.asn1_bits.specs.declared.bit_reader.BitReader.{BitReader}
use Rattle.asn1_bits.specs.BitReader.{view_left, bits_left}
use Rattle.asn1_bits.specs.View.{part}
use Rattle.asn1_values.specs.declared.bit_fields.error.ReadError.{ReadError}
use Rattle.asn1_values.specs.declared.bit_fields.error.ReadError.TheVariants.{Short}
use Rattle.asn1_values.specs.Steps.{Moves, Cuts}
use Rattle.asn1_values.proofs.bit_fields.take.take_few.Goals as goal

few_cut : (n at : ℕ) (old new : BitReader) (split : Result BitReader ℕ) (result : Result BitReader ReadError)
    → OnOk split (n ≤ length (bits_left old)) → IfOk split (λ r. view_left r ≡ part (view_left old) 0 n)
    → IfOk split (λ r. bits_left r ≡ take n (bits_left old)) → OnOk split (Moves n old new)
    → OnOk split (bits_left new ≡ drop n (bits_left old)) → (IsErr split ↔ ((view_left old).len < n))
    → IfErr split (λ k. (view_left old).len + k ≡ n) → IfErr split (λ k. length (bits_left old) + k ≡ n)
    → MatchResult split (λ r. result ≡ Ok r) (λ k. IsErrAnd result (λ e. e ≡ Short at k)) → Cuts n at old new result
few_cut n at old new (Ok front) result enough view list moved rest few lacks lacking same =
    rw same (record {
      taken = record { enough = enough; view = view; list = list; moved = moved; rest = rest };
      short = tt;
    })
few_cut n at old new (Err k) (Ok front) enough view list moved rest few lacks lacking same = absurd same
few_cut n at old new (Err k) (Err e) enough view list moved rest few lacks lacking same =
    let left : k ≡ n - length (bits_left old) = omega (arith, lacking) in
    record {
      taken = tt;
      short = (omega (arith, few.0 refl, lacks, lacking), same ∙ ap (Short at) left);
    }

pub returns : goal.returns
returns c =
    let s = c.split.ensures in
    few_cut c.args.width c.args.field c.args.reader.now c.split.new.self c.split.result c.map_err.result s.enough_bits
    s.front s.front_list s.rest s.rest_list s.short s.lacks s.lacks_bits (search rules)
