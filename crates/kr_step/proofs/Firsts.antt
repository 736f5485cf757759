-- The first candidate above a cut, and the entries.
use Rattle.std.proofs.Common.{sym, subst}
use Rattle.kr_base.specs.Cuts.{Before}
use Rattle.kr_base.specs.declared.entry.Entry.{Entry}
use Rattle.kr_mean.specs.Runs.{key_along}
use Rattle.kr_mean.specs.Entries.{entry_of}
use Rattle.kr_step.specs.Stages.{FirstLaw}
use Rattle.kr_step.proofs.Spans.{above_first, above_none}

pub first : {R : Type 0} → FirstLaw R
first {R} S order mark es c all = record {
  first = λ v is. above_first c (entry_of order mark v) es all.ascends (all.complete v is.listed) is.later (λ f m b b'.
      let u = all.sound f m in
      is.least u.0 u.1 (subst (λ (x : Entry R). Before c x.key) (sym u.2) b) (subst (λ (x : Entry R). Before x.key (key_along v (order v))) (sym u.2) b'));
  none = λ no. above_none c es (λ f m b.
      let u = all.sound f m in
      no u.0 u.1 (subst (λ (x : Entry R). Before c x.key) (sym u.2) b));
}
