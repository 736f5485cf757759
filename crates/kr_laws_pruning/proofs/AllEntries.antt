-- Trying every vector and every renaming gives all entries, and no other list has them.
use Rattle.std.proofs.Common.{◌≡◌, ℕ, List, ap, ◌∙◌, sym, subst}
use Rattle.std.specs.Prelude.{map, filter, ◌&&◌}
use Rattle.kr_base.specs.declared.entry.Mark.{Mark}
use Rattle.kr_base.specs.declared.entry.Entry.{Entry}
use Rattle.kr_base.specs.Entries.{IsAmong}
use Rattle.kr_mean.specs.Problem.{Problem}
use Rattle.kr_mean.specs.Space.{Space, space_of}
use Rattle.kr_mean.specs.Blocks.{IsSpace}
use Rattle.kr_mean.specs.Readings.{IsReading}
use Rattle.kr_mean.specs.Runs.{order_of}
use Rattle.kr_mean.specs.Entries.{entry_of, mark_of, IsAll, vectors, is_least, is_settled, sorted, all_of, all_entries}
use Rattle.kr_laws_pruning.specs.Laws.{PlainLaw}
use Rattle.kr_laws_pruning.proofs.Listed.{listed_has, has_listed, one_entry}
use Rattle.kr_laws_pruning.proofs.Sorting.{same_entries, ascends_sorted, among_sorted, sorted_has}

pub all_of_is_all : (space : Space) {R : Type 0} (order : List ℕ → List ℕ) (mark : List ℕ → Mark R) → IsSpace space → IsReading space order mark → IsAll space order mark (all_of space order mark)
unfolding all_of
all_of_is_all space {R} order mark is reading = record {
  ascends = ascends_sorted found;
  sound = λ e h. has_listed space order mark is reading e (among_sorted e found h);
  complete = λ v l.
      let r = sorted_has (entry_of order mark v) found (listed_has space order mark is reading v l) in
      let u = has_listed space order mark is reading r.0 (among_sorted r.0 found r.1) in
      let e : entry_of order mark u.0 ≡ entry_of order mark v = one_entry space order mark is reading u.0 v u.1.vector l.vector (ap (λ (x : Entry R). x.key) u.2 ∙ r.2) in
      subst (λ (x : Entry R). IsAmong x (sorted found)) (sym u.2 ∙ e) r.1;
}
  where
    found : List (Entry R)
    found = map (entry_of order mark) (filter (λ x. is_least space order x && is_settled space order x) (vectors space))

pub one_list : (space : Space) {R : Type 0} (order : List ℕ → List ℕ) (mark : List ℕ → Mark R) (es fs : List (Entry R)) → IsAll space order mark es → IsAll space order mark fs → es ≡ fs
one_list space {R} order mark es fs a b = same_entries es fs a.ascends b.ascends
    (λ e m. let v = a.sound e m in subst (λ (x : Entry R). IsAmong x fs) v.2 (b.complete v.0 v.1))
    (λ e m. let v = b.sound e m in subst (λ (x : Entry R). IsAmong x es) v.2 (a.complete v.0 v.1))

pub entries_are_all : (problem : Problem) → IsSpace (space_of problem) → IsReading (space_of problem) (order_of problem) (mark_of problem) → IsAll (space_of problem) (order_of problem) (mark_of problem) (all_entries problem)
unfolding all_entries
entries_are_all problem is reading = all_of_is_all (space_of problem) (order_of problem) (mark_of problem) is reading

pub plain : PlainLaw
plain problem lawful = record {
  all = entries_are_all problem lawful.space lawful.reading;
  only = λ es a. one_list (space_of problem) (order_of problem) (mark_of problem) es (all_entries problem) a (entries_are_all problem lawful.space lawful.reading);
}
