use Rattle.std.proofs.Common.{◌≡◌, take}
use Rattle.std.specs.Str.Parse.{AllDigits, digits_value}
use Rattle.field_lines.proofs.parse.number.Given as goal

-- the octets so far are digits, and the value is theirs
abbrev pub invariant-loop-digit : goal.invariant-loop-digit
invariant-loop-digit l = record {
  digits : AllDigits 10 (take l.digit-index l.digits);
  value : l.value ≡ digits_value 10 (take l.digit-index l.digits);
}
