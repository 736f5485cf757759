-- Each valid vector has exactly one valid entry.
use Rattle.std.proofs.Common.{◌≡◌, ℕ, inl, inr, List, [], ◌∷◌, refl, sym, ap, ◌∙◌, subst, get_or, true}
use Rattle.kr_base.specs.declared.entry.Mark.{Mark}
use Rattle.kr_base.specs.declared.entry.Entry.{Entry}
use Rattle.kr_base.specs.Cuts.{Before}
use Rattle.kr_base.specs.Entries.{is_valid}
use Rattle.kr_mean.specs.Problem.{Problem}
use Rattle.kr_mean.specs.Space.{Space, space_of, IsVector}
use Rattle.kr_mean.specs.Blocks.{IsSpace}
use Rattle.kr_mean.specs.Heaps.{walk}
use Rattle.kr_mean.specs.Readings.{IsIn, AreIn, IsReading}
use Rattle.kr_mean.specs.Runs.{End, True, end_on, order_of, key_along}
use Rattle.kr_mean.specs.Isomorphism.{AgreeOn, IsIsomorphic}
use Rattle.kr_mean.specs.Entries.{entry_of, mark_of, IsAll, IsListed, all_entries}
use Rattle.kr_laws_pruning.specs.Laws.{ClassLaw}
use Rattle.kr_mean.specs.declared.row.Row.{Row}
use Rattle.kr_laws_pruning.proofs.AllEntries.{entries_are_all}
use Rattle.kr_laws_pruning.proofs.CutOrder.{connected}
use Rattle.kr_laws_pruning.proofs.Forks.{forks_agree}
use Rattle.kr_laws_pruning.proofs.Listed.{one_entry, renamed_key}
use Rattle.kr_iso.proofs.Least.{renamed_along}
use Rattle.kr_laws_pruning.proofs.Representatives.{LeastRenaming, least_renaming, lowest_is_least, least_of_all, Settles, settled, settles}

agree_at : (s : ℕ) (ts u w : List ℕ) → IsIn s ts → AgreeOn ts u w → get_or u s 0 ≡ get_or w s 0
agree_at s [] u w i a = absurd i
agree_at s (t ∷ ts) u w (inl e) a = subst (λ (x : ℕ). get_or u x 0 ≡ get_or w x 0) e a.0
agree_at s (t ∷ ts) u w (inr i) a = agree_at s ts u w i a.1

agree_along : (ss ts u w : List ℕ) → AreIn ss ts → AgreeOn ts u w → key_along w ss ≡ key_along u ss
agree_along [] ts u w i a = refl
agree_along (s ∷ ss) ts u w i a = ap (λ (x : ℕ). x ∷ key_along w ss) (sym (agree_at s ts u w i.0 a)) ∙ ap (λ (l : List ℕ). get_or u s 0 ∷ l) (agree_along ss ts u w i.1 a)

agree_self : (ss u : List ℕ) → AgreeOn ss u u
agree_self [] u = tt
agree_self (s ∷ ss) u = (refl, agree_self ss u)

module _ (space : Space) {R : Type 0} (order reachable : List ℕ → List ℕ) (mark : List ℕ → Mark R) (is : IsSpace space) (reading : IsReading space order mark) (inside : (v : List ℕ) → IsVector space v → AreIn (order v) (reachable v)) where
  -- where what is read is reachable, a vector that a renaming agrees with has the renaming's key
  isomorphic_key : (u v : List ℕ) → IsVector space u → (iso : IsIsomorphic space reachable u v) → key_along u (order u) ≡ key_along iso.other (order iso.other)
  isomorphic_key u v iu iso =
      let along : key_along iso.other (order u) ≡ key_along u (order u) = agree_along (order u) (reachable u) u iso.other (inside u iu) iso.agree in
      let q = forks_agree u iso.other (mark u ≡ mark iso.other) (order u) (order iso.other) (reading.forks u iso.other iu iso.renamed.vector) along in
      sym along ∙ ap (key_along iso.other) q.0

  -- a listed vector with the key of a vector isomorphic to v has the key of v's least renaming
  one_key : (u v l : List ℕ) → IsVector space u → IsVector space v → (m : LeastRenaming space order mark is reading v) → IsIsomorphic space reachable u v → IsListed space order l → key_along l (order l) ≡ key_along u (order u)
      → key_along l (order l) ≡ key_along m.other (order m.other)
  one_key u v l iu iv m iso listed e =
      let w = iso.other in
      let same : key_along l (order l) ≡ key_along w (order w) = e ∙ isomorphic_key u v iu iso in
      let kw : key_along w (order w) ≡ renamed_along space iso.name v (order v) = renamed_key space order mark is reading v w iv iso.name iso.renaming iso.renamed in
      let km : key_along m.other (order m.other) ≡ renamed_along space m.name v (order v) = renamed_key space order mark is reading v m.other iv m.name m.renaming m.is_renamed in
      connected (key_along l (order l)) (key_along m.other (order m.other))
      (λ b. m.lowest iso.name iso.renaming (subst (λ (k : List ℕ). Before k (key_along m.other (order m.other))) (same ∙ kw) b))
      (λ b. least_of_all space order mark is reading v w l iso.name iv listed.vector iso.renaming iso.renamed same listed.least m.name m.renaming (subst (λ (k : List ℕ). Before k (key_along l (order l))) km b))

valid_mark : (problem : Problem) (w : List ℕ) → end_on problem w ≡ True → is_valid (mark_of problem w) ≡ true
unfolding mark_of
valid_mark problem w e = rw e refl

pub one_class : ClassLaw
one_class problem lawful v iv accepted = record {
  entry = entry;
  listed = all.complete chosen s.listed;
  valid = ap is_valid s.same_mark ∙ valid_mark problem m.other (ap (λ (x : End × ℕ). x.0) (lawful.ends m.name v m.other m.renaming iv m.is_renamed) ∙ accepted);
  member = (
    m.other,
    m.is_renamed.vector,
    record { name = m.name; other = m.other; renaming = m.renaming; renamed = m.is_renamed; agree = agree_self (walk problem m.other) m.other },
    sym s.same_key,
  );
  only = λ other u among good iu iso e.
      let l = all.sound other among in
      let kl : key_along l.0 (order l.0) ≡ key_along u (order u) = ap (λ (x : Entry Row). x.key) l.2 ∙ sym e in
      let k : key_along l.0 (order l.0) ≡ key_along m.other (order m.other) = one_key space order (walk problem) (mark_of problem) lawful.space lawful.reading lawful.reachable u v l.0 iu iv m iso l.1 kl in
      sym l.2 ∙ one_entry space order (mark_of problem) lawful.space lawful.reading l.0 chosen l.1.vector s.listed.vector (k ∙ sym s.same_key);
}
  where
    space : Space
    space = space_of problem

    order : List ℕ → List ℕ
    order = order_of problem

    all : IsAll space order (mark_of problem) (all_entries problem)
    all = entries_are_all problem lawful.space lawful.reading

    m : LeastRenaming space order (mark_of problem) lawful.space lawful.reading v
    m = least_renaming space order (mark_of problem) lawful.space lawful.reading v iv

    s : Settles space order (mark_of problem) lawful.space lawful.reading m.other
    s = settles space order (mark_of problem) lawful.space lawful.reading m.other m.is_renamed.vector (lowest_is_least space order (mark_of problem) lawful.space lawful.reading v iv m)

    chosen : List ℕ
    chosen = settled space order (mark_of problem) lawful.space lawful.reading m.other

    entry : Entry Row
    entry = entry_of order (mark_of problem) chosen
