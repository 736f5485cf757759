-- The numbers of nodes, one after another.
use Rattle.std.proofs.Common.{◌≡◌, refl, sym, ap, ◌∙◌, ℕ, zero, suc, ◌+◌, ◌-◌, ◌<◌, ◌≤◌, List, [], ◌∷◌, ◌++◌, length, arith, true, false, Bool, append_assoc, append-nil, if◌then◌else◌}
use Rattle.std.proofs.lemmas.List.{length-append}
use Rattle.kr_types.specs.declared.program.Program.{Program}
use Rattle.kr_code_lowering.specs.declared.numbering.NodeNumbers.{NodeNumbers}
use Rattle.kr_code_lowering.specs.Origins.{coded_count, counted, file_count, file_origin, first_node, has_code, marks, marks_from, numbers_from, others_from}
use Rattle.kr_code_lowering.specs.Numbered.{AreBegun, AreNumbers, IsCodedTo}
use Rattle.kr_ast.specs.declared.node.Entry.{Entry}
use Rattle.kr_ast.specs.Arena.{tree_in, tree_of}
use Rattle.kr_ast.specs.Files.{file_at}
use Rattle.kr_mean.specs.Code.{Node}
use Rattle.kr_code_lowering.specs.declared.site.Site.{Site}
use Rattle.kr_code_lowering.specs.Sites.{IsHere, IsSite, arena_at, number_at}
use Rattle.kr_code_lowering.proofs.Numbers.{ahead, coded_number, file_origin_is, number_below}

-- the mark of a node and those after it
pub marks_here : (p : Program) (k : ℕ) → k < file_count p → (b : Bool) → has_code (file_origin p k).tree ≡ b → marks_from p k (file_count p - k) ≡ b ∷ marks_from p (suc k) (file_count p - suc k)
unfolding marks_from
marks_here p k h b is =
    let e : file_count p - k ≡ suc (file_count p - suc k) = omega (arith, h) in
    ap (marks_from p k) e ∙ ap (λ (c : Bool). c ∷ marks_from p (suc k) (file_count p - suc k)) is

-- one more node of code, or one without code
pub coded_more : (p : Program) (k n : ℕ) → k < file_count p → has_code (file_origin p k).tree ≡ true → IsCodedTo p k n → IsCodedTo p (suc k) (suc n)
unfolding counted
coded_more p k n h is to = let e = ap counted (marks_here p k h true is) in omega (arith, e, to)

pub coded_still : (p : Program) (k n : ℕ) → k < file_count p → has_code (file_origin p k).tree ≡ false → IsCodedTo p k n → IsCodedTo p (suc k) n
unfolding counted
coded_still p k n h is to = let e = ap counted (marks_here p k h false is) in omega (arith, e, to)

pub begun_more : (p : Program) (o k : ℕ) (old new : NodeNumbers) (b : Bool) → k < file_count p → has_code (file_origin p k).tree ≡ b → AreBegun p o k old → new.all.items ≡ old.all.items ++ (if b then old.coded else (o + k)) ∷ [] → new.coded ≡ old.coded + (if b then 1 else 0) → AreBegun p o (suc k) new
unfolding numbers_from
begun_more p o k old new true h is begun items coded =
    let xs = old.all.items in
    let rest = marks_from p (suc k) (file_count p - suc k) in
    let here = marks_here p k h true is in
    let one : new.coded ≡ suc old.coded = omega (arith, coded) in
    let next : o + suc k ≡ suc (o + k) = omega arith in
    record {
      long = omega (arith, ap length items, length-append xs (old.coded ∷ []), begun.long);
      few = omega (arith, one, begun.few);
      coded = (let e : suc old.coded ≡ new.coded = sym one in let made = coded_more p k old.coded h is begun.coded in omega (arith, made, e));
      numbers =
          ap (λ (ys : List ℕ). ys ++ numbers_from new.coded (o + suc k) rest) items
          ∙ (append_assoc xs (old.coded ∷ []) (numbers_from new.coded (o + suc k) rest)
          ∙ (ap (λ (c : ℕ). xs ++ old.coded ∷ numbers_from c (o + suc k) rest) one
          ∙ (ap (λ (c : ℕ). xs ++ old.coded ∷ numbers_from (suc old.coded) c rest) next
          ∙ (ap (λ (bs : List Bool). xs ++ numbers_from old.coded (o + k) bs) (sym here) ∙ begun.numbers))));
    }
begun_more p o k old new false h is begun items coded =
    let xs = old.all.items in
    let rest = marks_from p (suc k) (file_count p - suc k) in
    let here = marks_here p k h false is in
    let same : new.coded ≡ old.coded = omega (arith, coded) in
    let next : o + suc k ≡ suc (o + k) = omega arith in
    record {
      long = omega (arith, ap length items, length-append xs ((o + k) ∷ []), begun.long);
      few = omega (arith, same, begun.few);
      coded = (let e : old.coded ≡ new.coded = sym same in let made = coded_still p k old.coded h is begun.coded in omega (arith, made, e));
      numbers =
          ap (λ (ys : List ℕ). ys ++ numbers_from new.coded (o + suc k) rest) items
          ∙ (append_assoc xs ((o + k) ∷ []) (numbers_from new.coded (o + suc k) rest)
          ∙ (ap (λ (c : ℕ). xs ++ (o + k) ∷ numbers_from c (o + suc k) rest) same
          ∙ (ap (λ (c : ℕ). xs ++ (o + k) ∷ numbers_from old.coded c rest) next
          ∙ (ap (λ (bs : List Bool). xs ++ numbers_from old.coded (o + k) bs) (sym here) ∙ begun.numbers))));
    }

pub none_begun : (p : Program) (o k : ℕ) (ns : NodeNumbers) → k ≡ 0 → ns.all.items ≡ [] → ns.coded ≡ 0 → AreBegun p o k ns
none_begun p o k ns zero_is none coded =
    let z : o + k ≡ o = omega (arith, zero_is) in
    let all : file_count p - 0 ≡ file_count p = omega arith in
    let m : marks_from p k (file_count p - k) ≡ marks p = ap (λ (i : ℕ). marks_from p i (file_count p - i)) zero_is ∙ ap (marks_from p 0) all in
    record {
      long = ap length none ∙ sym zero_is;
      few = omega (arith, coded);
      coded = (let e = ap counted m in omega (arith, e, coded));
      numbers =
          ap (λ (xs : List ℕ). xs ++ numbers_from ns.coded (o + k) (marks_from p k (file_count p - k))) none
          ∙ (ap (λ (c : ℕ). numbers_from c (o + k) (marks_from p k (file_count p - k))) coded
          ∙ (ap (λ (i : ℕ). numbers_from 0 i (marks_from p k (file_count p - k))) z ∙ ap (numbers_from 0 o) m));
    }

pub none_coded : (p : Program) (n : ℕ) → n ≡ 0 → IsCodedTo p 0 n
none_coded p n e =
    let all : file_count p - 0 ≡ file_count p = omega arith in
    let m = ap (λ (i : ℕ). counted (marks_from p 0 i)) all in
    omega (arith, e, m)

-- nothing is marked after the last node
marks_none : (p : Program) (k : ℕ) → k ≡ file_count p → marks_from p k (file_count p - k) ≡ []
unfolding marks_from
marks_none p k e = let z : file_count p - k ≡ 0 = omega (arith, e) in ap (marks_from p k) z

pub coded_all : (p : Program) (k n : ℕ) → k ≡ file_count p → IsCodedTo p k n → n ≡ coded_count p
unfolding counted
coded_all p k n e to = let none = ap counted (marks_none p k e) in omega (arith, none, to)

pub numbers_are : (p : Program) (o k : ℕ) (ns : NodeNumbers) → k ≡ file_count p → o + file_count p ≡ 4294967295 → ns.coded ≤ o → AreBegun p o k ns → AreNumbers p ns
unfolding numbers_from
numbers_are p o k ns e others fits begun =
    let count = coded_all p k ns.coded e begun.coded in
    let same : o ≡ others_from p = omega (arith, others, fits, count) in
    record {
      all =
          sym (append-nil ns.all.items)
          ∙ (ap (λ (bs : _). ns.all.items ++ numbers_from ns.coded (o + k) bs) (sym (marks_none p k e))
          ∙ (begun.numbers ∙ ap (λ (i : ℕ). numbers_from 0 i (marks p)) same));
      coded = count;
    }

-- those that are marked before an index, and those from it on
ahead_none : (bs : List Bool) → ahead bs 0 ≡ 0
unfolding ahead
ahead_none [] = refl
ahead_none (b ∷ bs) = refl

ahead_step : (p : Program) (k n j : ℕ) (b : Bool) → has_code (file_origin p k).tree ≡ b → ahead (marks_from p (suc k) n) j + counted (marks_from p (suc k + j) (n - j)) ≡ counted (marks_from p (suc k) n)
    → ahead (marks_from p k (suc n)) (suc j) + counted (marks_from p (suc k + j) (n - j)) ≡ counted (marks_from p k (suc n))
unfolding marks_from counted ahead
ahead_step p k n j true is before =
    let first = ap (λ (c : Bool). ahead (c ∷ marks_from p (suc k) n) (suc j)) is in
    let all = ap (λ (c : Bool). counted (c ∷ marks_from p (suc k) n)) is in
    omega (arith, first, all, before)
ahead_step p k n j false is before =
    let first = ap (λ (c : Bool). ahead (c ∷ marks_from p (suc k) n) (suc j)) is in
    let all = ap (λ (c : Bool). counted (c ∷ marks_from p (suc k) n)) is in
    omega (arith, first, all, before)

ahead_rest : (p : Program) (k n j : ℕ) → j ≤ n → ahead (marks_from p k n) j + counted (marks_from p (k + j) (n - j)) ≡ counted (marks_from p k n)
ahead_rest p k n zero l =
    let at : k + 0 ≡ k = omega arith in
    let all : n - 0 ≡ n = omega arith in
    let same = ap (λ (i : ℕ). counted (marks_from p i (n - 0))) at ∙ ap (λ (m : ℕ). counted (marks_from p k m)) all in
    omega (arith, same, ahead_none (marks_from p k n))
ahead_rest p k zero (suc j) l = absurd (omega (arith, l))
ahead_rest p k (suc n) (suc j) l =
    let at : k + suc j ≡ suc k + j = omega arith in
    let left : suc n - suc j ≡ n - j = omega arith in
    let same = ap (λ (i : ℕ). counted (marks_from p i (suc n - suc j))) at ∙ ap (λ (m : ℕ). counted (marks_from p (suc k + j) m)) left in
    omega (arith, same, ahead_step p k n j (has_code (file_origin p k).tree) refl (ahead_rest p (suc k) n j (omega (arith, l))))

-- as many nodes of code as there are before a node is its number
pub number_next : (p : Program) (k n : ℕ) → k < file_count p → has_code (file_origin p k).tree ≡ true → IsCodedTo p k n → ahead (marks p) k ≡ n
number_next p k n h is to =
    let e = ahead_rest p 0 (file_count p) k (omega (arith, h)) in
    let z : 0 + k ≡ k = omega arith in
    let same = ap (λ (i : ℕ). counted (marks_from p i (file_count p - k))) z in
    omega (arith, e, same, to)

-- ---- nodes at their places

-- the node is there
pub site_there : (p : Program) (file node first entries : ℕ) → file < length p.trees.items → first ≡ first_node p.trees.items file → entries ≡ length (file_at p.trees.items file).entries → node < entries → IsSite p (record { file = file; node = node; first = first })
site_there p file node first entries f is count n = record { file = f; node = omega (arith, count, n); first = is }

pub site_within : (p : Program) (s : Site) → IsSite p s → s.first + s.node < file_count p
site_within p s at = omega (arith, number_below p.trees.items s.file s.node at.file at.node, at.first)

pub site_code : (p : Program) (s : Site) (e : Entry) → IsHere p s e → (b : Bool) → b ≡ has_code (tree_of (arena_at p s).text (tree_in (arena_at p s)) e.place e.node) → has_code (file_origin p (s.first + s.node)).tree ≡ b
site_code p s e at b is =
    ap (λ (k : ℕ). has_code (file_origin p (k + s.node)).tree) at.site.first
    ∙ (ap (λ (o : Node). has_code o.tree) (file_origin_is p s.file s.node at.site.file at.site.node) ∙ (ap has_code at.tree ∙ sym is))

pub site_number : (p : Program) (s : Site) → IsSite p s → has_code (file_origin p (s.first + s.node)).tree ≡ true → (n : ℕ) → IsCodedTo p (s.first + s.node) n → number_at p s s.node ≡ n
site_number p s at is n to =
    let h = site_within p s at in
    coded_number p (s.first + s.node) h is ∙ number_next p (s.first + s.node) n h is to
