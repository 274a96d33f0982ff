use Rattle.std.proofs.Common.{◌≡◌, ◌++◌, drop, IfSome}
use Rattle.cvss_frame.specs.Arguments.{bytes_of}
use Rattle.cvss_frame.proofs.command_line.arguments_of.Given as goal

abbrev pub invariant-loop-index : goal.invariant-loop-index
invariant-loop-index g l =
    IfSome (g.L.CommandLine.given l.line) (λ arguments. bytes_of l.arguments.items ++ drop l.index arguments ≡ drop 1 arguments)
