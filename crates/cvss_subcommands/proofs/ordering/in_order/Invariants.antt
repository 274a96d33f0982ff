use Rattle.std.proofs.Common.{◌≡◌, ◌++◌}
use Rattle.std.specs.Vec.Iter.{into_iter_items}
use Rattle.cvss_frame.specs.Arguments.{bytes_of}
use Rattle.cvss_subcommands.specs.Ordering.{next_after_all, operands_in, options_in, roles}
use Rattle.cvss_subcommands.specs.declared.ordering.Next.TheVariants.{Value}
use Rattle.cvss_subcommands.proofs.ordering.in_order.Given as goal

-- what is moved, and what the words that are left add to it
abbrev pub invariant-loop-word : goal.invariant-loop-word
invariant-loop-word l =
    let left = roles l.subcommand l.next (bytes_of (into_iter_items l.word-iterator)) in
    let all = roles l.subcommand Value (bytes_of (into_iter_items l.initial.word-iterator)) in
    record {
      options : bytes_of l.options.items ++ options_in left ≡ options_in all;
      operands : bytes_of l.operands.items ++ operands_in left ≡ operands_in all;
      next : next_after_all l.next left ≡ next_after_all Value all;
    }
