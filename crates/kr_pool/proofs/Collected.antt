-- A piece more.
use Rattle.std.proofs.Common.{◌≡◌, List, [], ◌∷◌, ◌++◌, refl, sym, ap, ◌∙◌, append_assoc, Vec, Global}
use Rattle.std.proofs.lemmas.List.{append-nil}
use Rattle.kr_survey.specs.Joins.{joined, lists}

joined_more : {R : Type 0} (vs : List (Vec R Global)) (v : Vec R Global) → joined (lists (vs ++ v ∷ [])) ≡ joined (lists vs) ++ v.items
joined_more [] v = append-nil v.items
joined_more {R} (w ∷ vs) v = ap (λ (l : List R). w.items ++ l) (joined_more vs v) ∙ sym (append_assoc w.items (joined (lists vs)) v.items)

pub collects_more : {R : Type 0} (old new : List (Vec R Global)) (v : Vec R Global) (before done rows : List R) → new ≡ old ++ v ∷ [] → v.items ≡ rows → joined (lists old) ≡ before ++ done → joined (lists new) ≡ before ++ (done ++ rows)
collects_more {R} old new v before done rows is has h =
    ap (λ (vs : List (Vec R Global)). joined (lists vs)) is ∙ (joined_more old v ∙ (ap (λ (l : List R). joined (lists old) ++ l) has ∙ (ap (λ (l : List R). l ++ rows) h ∙ append_assoc before done rows)))
