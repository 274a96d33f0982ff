use Rattle.std.proofs.Common.{◌≡◌, ◌++◌}
use Rattle.std.specs.Vec.Iter.{into_iter_items}
use Rattle.cvss_frame.specs.Arguments.{bytes_of}
use Rattle.cvss_subcommands.proofs.ordering.move_operands.Given as goal

-- the options so far and the operands that are left
abbrev pub invariant-loop-operand : goal.invariant-loop-operand
invariant-loop-operand l =
    bytes_of l.options.items ++ bytes_of (into_iter_items l.operand-iterator)
    ≡ bytes_of l.initial.options.items ++ bytes_of (into_iter_items l.initial.operand-iterator)
