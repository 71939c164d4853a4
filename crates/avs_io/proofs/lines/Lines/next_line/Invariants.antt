use Rattle.std.proofs.Common.{◌≡◌, ◌-◌, length}
use Rattle.avs_io.specs.Reader.{reader_of, faults_of}
use Rattle.avs_io.proofs.SoFar.{HasPart}
use Rattle.avs_io.proofs.lines.Lines.next_line.Given as goal

abbrev pub invariant-loop-line : goal.invariant-loop-line
invariant-loop-line g l = record {
  reference : l.self.source.ghost_name ≡ l.fn.self.source.ghost_name;
  quiet : faults_of l.self ≡ faults_of l.fn.self;
  so_far : HasPart (reader_of l.fn.self) (reader_of l.self) l.line.items;
}

abbrev pub decreases-loop-line : goal.decreases-loop-line
decreases-loop-line g l = 4096 - length l.line.items
