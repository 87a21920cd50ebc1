use Rattle.std.proofs.Common.{◌≡◌, ◌++◌, take, string_bytes}
use Rattle.asn1_values.specs.Words.{bits_of}
use Rattle.field_lines.specs.Output.{digits_of_bits}
use Rattle.field_lines.proofs.print.push_digits.Given as goal

-- the text ends with the digits of the bits so far
abbrev pub invariant-loop-i : goal.invariant-loop-i
invariant-loop-i l = string_bytes l.text ≡ string_bytes l.initial.text ++ digits_of_bits (take l.i (bits_of l.bits))
