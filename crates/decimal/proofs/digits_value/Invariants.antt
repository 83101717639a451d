-- The loop of `digits_value`.
use Rattle.std.proofs.Common.{◌≡◌, take}
use Rattle.std.specs.Str.Parse.{AllDigits, digits_value}
use Rattle.decimal.proofs.digits_value.Given as goal

-- the bytes so far are digits, and the number is their value
abbrev pub invariant-loop-byte : goal.invariant-loop-byte
invariant-loop-byte l = AllDigits 10 (take l.byte-index l.word) × (l.number ≡ digits_value 10 (take l.byte-index l.word))
