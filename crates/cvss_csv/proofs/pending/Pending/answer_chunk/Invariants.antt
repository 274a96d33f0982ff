use Rattle.std.proofs.Common.{◌≡◌, length}
use Rattle.cvss_csv.specs.Fields.{state_after}
use Rattle.cvss_csv.specs.declared.state.State.TheVariants.{Start}
use Rattle.cvss_csv.proofs.ReadsLemmas.{HasRead}
use Rattle.cvss_csv.proofs.pending.Pending.answer_chunk.Given as goal

abbrev pub invariant-loop-piece : goal.invariant-loop-piece
invariant-loop-piece l = record {
  state_is : state_after Start l.self.cut.items ≡ l.self.state;
  read : HasRead l.fn.column l.fn.chunk l.rest l.fn.self l.self;
}

abbrev pub decreases-loop-piece : goal.decreases-loop-piece
decreases-loop-piece l = length l.rest
