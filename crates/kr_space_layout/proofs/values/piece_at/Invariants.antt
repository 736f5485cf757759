use Rattle.std.proofs.Common.{◌-◌, ◌<◌, ◌≤◌, length, get_or}
use Rattle.kr_space_layout.specs.Stretches.{no_piece}
use Rattle.kr_space_layout.proofs.values.piece_at.Given as goal

abbrev pub invariant-loop-low : goal.invariant-loop-low
invariant-loop-low l = record {
  apart : l.low < l.high;
  inside : l.high ≤ length l.pieces;
  from : (get_or l.pieces l.low no_piece).start ≤ l.index;
  before : l.high < length l.pieces → l.index < (get_or l.pieces l.high no_piece).start;
}

abbrev pub decreases-loop-low : goal.decreases-loop-low
decreases-loop-low l = l.high - l.low
