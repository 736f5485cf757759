-- Laws of keys; each least vector has its entry.
use Rattle.std.proofs.Common.{◌≡◌, ℕ, List, [], ◌∷◌, ◌++◌, sym, ap, ◌∙◌, get_or}
use Rattle.kr_mean.specs.Space.{space_of}
use Rattle.kr_mean.specs.Readings.{Forks}
use Rattle.kr_mean.specs.Runs.{order_of, key_along}
use Rattle.kr_mean.specs.Entries.{entry_of, mark_of}
use Rattle.kr_laws_pruning.specs.Laws.{ended, KeysLaw, EntryLaw}
use Rattle.kr_laws_pruning.proofs.AllEntries.{entries_are_all}
use Rattle.kr_laws_pruning.proofs.Forks.{forks_equal}
use Rattle.kr_laws_pruning.proofs.Representatives.{settled, settles}

no_front : (u v : List ℕ) (Q : Type 0) (ss ts : List ℕ) → Forks u v Q ss ts → (next : ℕ) (more : List ℕ) → key_along v ts ≡ key_along u ss ++ next ∷ more → ⊥
no_front u v Q [] [] f next more e = absurd (cc (e))
no_front u v Q [] (t ∷ ts) f next more e = f
no_front u v Q (s ∷ ss) [] f next more e = f
no_front u v Q (s ∷ ss) (t ∷ ts) f next more e =
    let p : get_or v t 0 ≡ get_or u s 0 = cc in
    let h : get_or u s 0 ≡ get_or v s 0 = sym p ∙ ap (λ (x : ℕ). get_or v x 0) (sym f.0) in
    no_front u v Q ss ts (f.1 h) next more (cc)

pub keys_tell : KeysLaw
keys_tell problem lawful u v iu iv = record {
  front = λ more next e. no_front u v (ended problem u ≡ ended problem v) (order_of problem u) (order_of problem v) (lawful.agreed u v iu iv) next more e;
  order = λ e. (forks_equal u v (mark_of problem u ≡ mark_of problem v) (order_of problem u) (order_of problem v) (lawful.reading.forks u v iu iv) e).0;
  mark = λ e. (forks_equal u v (mark_of problem u ≡ mark_of problem v) (order_of problem u) (order_of problem v) (lawful.reading.forks u v iu iv) e).1;
  ends = λ e. (forks_equal u v (ended problem u ≡ ended problem v) (order_of problem u) (order_of problem v) (lawful.agreed u v iu iv) e).1;
}

pub has_entry : EntryLaw
has_entry problem lawful v iv least =
    let s = settles (space_of problem) (order_of problem) (mark_of problem) lawful.space lawful.reading v iv least in
    let listed = settled (space_of problem) (order_of problem) (mark_of problem) lawful.space lawful.reading v in
    record {
      entry = entry_of (order_of problem) (mark_of problem) listed;
      listed = (entries_are_all problem lawful.space lawful.reading).complete listed s.listed;
      key = s.same_key;
      mark = s.same_mark;
    }
