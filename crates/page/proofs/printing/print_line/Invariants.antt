-- What is printed of the numbers so far.
use Rattle.std.proofs.Common.{◌≡◌, ◌++◌, map, take, string_bytes, decimal}
use Rattle.words.specs.Numbers.{spaced}
use Rattle.page.proofs.printing.print_line.Given as goal

abbrev pub invariant-loop-number : goal.invariant-loop-number
invariant-loop-number l = string_bytes l.page ≡ string_bytes l.initial.page ++ spaced (map decimal (take l.number-index l.numbers))
