-- Which node has which number.
use Rattle.std.proofs.Common.{◌≡◌, refl, sym, ap, ◌∙◌, ℕ, zero, suc, ◌+◌, ◌-◌, ◌<◌, ◌≤◌, List, [], ◌∷◌, ◌++◌, length, arith, nat_lt, if◌then◌else◌, true, false, Bool, get_or}
use Rattle.std.proofs.lemmas.List.{length-append, get_or_append_left, get_or-append-add}
use Rattle.std.proofs.lemmas.Bool.Decides.{nat_tests}
use Rattle.kr_ast.specs.Arena.{Arena}
use Rattle.kr_ast.specs.Files.{file_at}
use Rattle.kr_types.specs.declared.program.Program.{Program}
use Rattle.kr_types.specs.Programs.{all_entries}
use Rattle.kr_mean.specs.Code.{Node}
use Rattle.kr_code_lowering.specs.Origins.{coded_count, counted, file_count, file_origin, first_node, has_code, marked, marks, marks_from, node_origin, nothing, number_of, numbers_from, origin_from, origin_of, origins_from, others_from, uncoded}

-- ---- nodes of files

step_in : (p : Program) (g : ℕ) (a : Arena) (files : List Arena) (k : ℕ) → k < length a.entries → origin_from p g (a ∷ files) k ≡ node_origin p g k
unfolding origin_from
step_in p g a files k h = ap (λ (b : Bool). if b then node_origin p g k else origin_from p (suc g) files (k - length a.entries)) (let in_it : nat_lt k (length a.entries) ≡ true = grind (arith, nat_tests) in in_it)

step_over : (p : Program) (g : ℕ) (a : Arena) (files : List Arena) (k : ℕ) → length a.entries ≤ k → origin_from p g (a ∷ files) k ≡ origin_from p (suc g) files (k - length a.entries)
unfolding origin_from
step_over p g a files k h = ap (λ (b : Bool). if b then node_origin p g k else origin_from p (suc g) files (k - length a.entries)) (let behind : nat_lt k (length a.entries) ≡ false = grind (arith, nat_tests) in behind)

origin_behind_files : (p : Program) (g : ℕ) (files : List Arena) (f i : ℕ) → f < length files → i < length (file_at files f).entries → origin_from p g files (first_node files f + i) ≡ node_origin p (g + f) i
unfolding first_node
origin_behind_files p g [] f i h k = absurd (omega (arith, h))
origin_behind_files p g (a ∷ files) zero i h k =
    let e : 0 + i ≡ i = omega arith in
    let z : g ≡ g + 0 = omega arith in
    ap (origin_from p g (a ∷ files)) e ∙ step_in p g a files i k ∙ ap (λ (j : ℕ). node_origin p j i) z
origin_behind_files p g (a ∷ files) (suc f) i h k =
    let n = length a.entries + first_node files f + i in
    let e : n - length a.entries ≡ first_node files f + i = omega arith in
    let z : suc g + f ≡ g + suc f = omega arith in
    step_over p g a files n (omega arith) ∙ ap (origin_from p (suc g) files) e ∙ origin_behind_files p (suc g) files f i (omega (arith, h)) k ∙ ap (λ (j : ℕ). node_origin p j i) z

-- the node at a file's place is that of the file
pub file_origin_is : (p : Program) (f i : ℕ) → f < length p.trees.items → i < length (file_at p.trees.items f).entries → file_origin p (first_node p.trees.items f + i) ≡ node_origin p f i
file_origin_is p f i h k =
    let z : 0 + f ≡ f = omega arith in
    origin_behind_files p 0 p.trees.items f i h k ∙ ap (λ (j : ℕ). node_origin p j i) z

-- the places of a file's nodes are below the number of all
pub number_below : (files : List Arena) (f i : ℕ) → f < length files → i < length (file_at files f).entries → first_node files f + i < length (all_entries files)
unfolding first_node
number_below [] f i h k = absurd (omega (arith, h))
number_below (a ∷ files) zero i h k = omega (arith, length-append a.entries (all_entries files), k)
number_below (a ∷ files) (suc f) i h k = omega (arith, length-append a.entries (all_entries files), number_below files f i (omega (arith, h)) k)

-- the next file's first node follows a file's nodes
pub first_next : (files : List Arena) (f : ℕ) → f < length files → first_node files (suc f) ≡ first_node files f + length (file_at files f).entries
unfolding first_node
first_next [] f h = absurd (omega (arith, h))
first_next (a ∷ files) zero h = omega arith
first_next (a ∷ files) (suc f) h = omega (arith, first_next files f (omega (arith, h)))

-- ---- marks

-- how many are marked before an index
unfoldable pub ahead : List Bool → ℕ → ℕ
ahead [] j = 0
ahead (b ∷ bs) zero = 0
ahead (true ∷ bs) (suc j) = suc (ahead bs j)
ahead (false ∷ bs) (suc j) = ahead bs j

marks_read : (p : Program) (k n j : ℕ) (d : Bool) → j < n → get_or (marks_from p k n) j d ≡ has_code (file_origin p (k + j)).tree
unfolding marks_from
marks_read p k zero j d h = absurd (omega (arith, h))
marks_read p k (suc n) zero d h = let e : k ≡ k + 0 = omega arith in ap (λ (i : ℕ). has_code (file_origin p i).tree) e
marks_read p k (suc n) (suc j) d h = let e : suc k + j ≡ k + suc j = omega arith in marks_read p (suc k) n j d (omega (arith, h)) ∙ ap (λ (i : ℕ). has_code (file_origin p i).tree) e

origins_read : (p : Program) (k n j : ℕ) (d : Node) → j < n → get_or (origins_from p k n) j d ≡ file_origin p (k + j)
unfolding origins_from
origins_read p k zero j d h = absurd (omega (arith, h))
origins_read p k (suc n) zero d h = let e : k ≡ k + 0 = omega arith in ap (file_origin p) e
origins_read p k (suc n) (suc j) d h = let e : suc k + j ≡ k + suc j = omega arith in origins_read p (suc k) n j d (omega (arith, h)) ∙ ap (file_origin p) e

marks_long : (p : Program) (k n : ℕ) → length (marks_from p k n) ≡ n
unfolding marks_from
marks_long p k zero = refl
marks_long p k (suc n) = ap suc (marks_long p (suc k) n)

origins_long : (p : Program) (k n : ℕ) → length (origins_from p k n) ≡ n
unfolding origins_from
origins_long p k zero = refl
origins_long p k (suc n) = ap suc (origins_long p (suc k) n)

marked_long : (bs : List Bool) (ns : List Node) → length bs ≡ length ns → length (marked bs ns) ≡ counted bs
unfolding marked counted
marked_long [] ns e = refl
marked_long (b ∷ bs) [] e = absurd (omega (arith, e))
marked_long (true ∷ bs) (n ∷ ns) e = ap suc (marked_long bs ns (omega (arith, e)))
marked_long (false ∷ bs) (n ∷ ns) e = marked_long bs ns (omega (arith, e))

marked_read : (bs : List Bool) (ns more : List Node) (j : ℕ) (d : Node) → length bs ≡ length ns → get_or bs j false ≡ true → get_or (marked bs ns ++ more) (ahead bs j) d ≡ get_or ns j d
unfolding marked ahead
marked_read [] ns more j d e is = absurd (cc (is))
marked_read (b ∷ bs) [] more j d e is = absurd (omega (arith, e))
marked_read (true ∷ bs) (n ∷ ns) more zero d e is = refl
marked_read (true ∷ bs) (n ∷ ns) more (suc j) d e is = marked_read bs ns more j d (omega (arith, e)) is
marked_read (false ∷ bs) (n ∷ ns) more zero d e is = absurd (cc (is))
marked_read (false ∷ bs) (n ∷ ns) more (suc j) d e is = marked_read bs ns more j d (omega (arith, e)) is

ahead_below : (bs : List Bool) (j : ℕ) → get_or bs j false ≡ true → ahead bs j < counted bs
unfolding counted ahead
ahead_below [] j is = absurd (cc (is))
ahead_below (true ∷ bs) zero is = omega arith
ahead_below (true ∷ bs) (suc j) is = omega (arith, ahead_below bs j is)
ahead_below (false ∷ bs) zero is = absurd (cc (is))
ahead_below (false ∷ bs) (suc j) is = ahead_below bs j is

number_marked : (c o : ℕ) (bs : List Bool) (j : ℕ) → get_or bs j false ≡ true → get_or (numbers_from c o bs) j 0 ≡ c + ahead bs j
unfolding numbers_from ahead
number_marked c o [] j is = absurd (cc (is))
number_marked c o (true ∷ bs) zero is = omega arith
number_marked c o (true ∷ bs) (suc j) is = omega (arith, number_marked (suc c) (suc o) bs j is)
number_marked c o (false ∷ bs) zero is = absurd (cc (is))
number_marked c o (false ∷ bs) (suc j) is = number_marked c (suc o) bs j is

number_unmarked : (c o : ℕ) (bs : List Bool) (j : ℕ) → j < length bs → get_or bs j true ≡ false → get_or (numbers_from c o bs) j 0 ≡ o + j
unfolding numbers_from
number_unmarked c o [] j h is = absurd (omega (arith, h))
number_unmarked c o (true ∷ bs) zero h is = absurd (cc (is))
number_unmarked c o (true ∷ bs) (suc j) h is = omega (arith, number_unmarked (suc c) (suc o) bs j (omega (arith, h)) is)
number_unmarked c o (false ∷ bs) zero h is = omega arith
number_unmarked c o (false ∷ bs) (suc j) h is = omega (arith, number_unmarked c (suc o) bs j (omega (arith, h)) is)

-- ---- nodes by their numbers

low_origin : (p : Program) (ns : List Node) (k : ℕ) → k < others_from p → origin_of p ns k ≡ get_or (marked (marks p) (origins_from p 0 (file_count p)) ++ ns) k (nothing p)
unfolding origin_of
low_origin p ns k h = ap (λ (b : Bool). if b then get_or (marked (marks p) (origins_from p 0 (file_count p)) ++ ns) k (nothing p) else uncoded p (file_origin p (k - others_from p))) (let low : nat_lt k (others_from p) ≡ true = grind (arith, nat_tests) in low)

high_origin : (p : Program) (ns : List Node) (k : ℕ) → others_from p ≤ k → origin_of p ns k ≡ uncoded p (file_origin p (k - others_from p))
unfolding origin_of
high_origin p ns k h = ap (λ (b : Bool). if b then get_or (marked (marks p) (origins_from p 0 (file_count p)) ++ ns) k (nothing p) else uncoded p (file_origin p (k - others_from p))) (let high : nat_lt k (others_from p) ≡ false = grind (arith, nat_tests) in high)

-- the number of a node with code is how many with code are before it
pub coded_number : (p : Program) (k : ℕ) → k < file_count p → has_code (file_origin p k).tree ≡ true → number_of p k ≡ ahead (marks p) k
unfolding number_of
coded_number p k h is =
    let z : 0 + k ≡ k = omega arith in
    number_marked 0 (others_from p) (marks p) k (marks_read p 0 (file_count p) k false h ∙ ap (λ (i : ℕ). has_code (file_origin p i).tree) z ∙ is) ∙ (let e : 0 + ahead (marks p) k ≡ ahead (marks p) k = omega arith in e)

other_number : (p : Program) (k : ℕ) → k < file_count p → has_code (file_origin p k).tree ≡ false → number_of p k ≡ others_from p + k
unfolding number_of
other_number p k h is =
    let z : 0 + k ≡ k = omega arith in
    number_unmarked 0 (others_from p) (marks p) k (let l = marks_long p 0 (file_count p) in omega (arith, l, h)) (marks_read p 0 (file_count p) k true h ∙ ap (λ (i : ℕ). has_code (file_origin p i).tree) z ∙ is)

placed : (p : Program) (ns : List Node) (k : ℕ) → k < file_count p → origin_of p ns (number_of p k) ≡ file_origin p k
placed p ns k h = go (has_code (file_origin p k).tree) refl
  where
    go : (b : Bool) → has_code (file_origin p k).tree ≡ b → origin_of p ns (number_of p k) ≡ file_origin p k
    go true is =
        let z : 0 + k ≡ k = omega arith in
        let mark : get_or (marks p) k false ≡ true = marks_read p 0 (file_count p) k false h ∙ ap (λ (i : ℕ). has_code (file_origin p i).tree) z ∙ is in
        let below = ahead_below (marks p) k mark in
        let long : length (marks p) ≡ length (origins_from p 0 (file_count p)) = marks_long p 0 (file_count p) ∙ sym (origins_long p 0 (file_count p)) in
        ap (origin_of p ns) (coded_number p k h is) ∙ (low_origin p ns (ahead (marks p) k) (omega (arith, below))
        ∙ (marked_read (marks p) (origins_from p 0 (file_count p)) ns k (nothing p) long mark ∙ (origins_read p 0 (file_count p) k (nothing p) h ∙ ap (file_origin p) z)))
    go false is =
        let z : others_from p + k - others_from p ≡ k = omega arith in
        ap (origin_of p ns) (other_number p k h is) ∙ (high_origin p ns (others_from p + k) (omega arith) ∙ (ap (λ (i : ℕ). uncoded p (file_origin p i)) z
        ∙ ap (λ (b : Bool). if b then nothing p else file_origin p k) is))

-- a node of a file is that of its tree
pub origin_there : (p : Program) (ns : List Node) (f i : ℕ) → f < length p.trees.items → i < length (file_at p.trees.items f).entries → origin_of p ns (number_of p (first_node p.trees.items f + i)) ≡ node_origin p f i
origin_there p ns f i h k = placed p ns (first_node p.trees.items f + i) (number_below p.trees.items f i h k) ∙ file_origin_is p f i h k

-- after the files' nodes come the others, and after those nothing
pub origin_behind : (p : Program) (ns : List Node) (k : ℕ) → coded_count p + k < others_from p → origin_of p ns (coded_count p + k) ≡ get_or ns k (nothing p)
origin_behind p ns k h =
    let os = origins_from p 0 (file_count p) in
    let long = marked_long (marks p) os (marks_long p 0 (file_count p) ∙ sym (origins_long p 0 (file_count p))) in
    low_origin p ns (coded_count p + k) h ∙ (ap (λ (n : ℕ). get_or (marked (marks p) os ++ ns) (n + k) (nothing p)) (sym long) ∙ get_or-append-add (marked (marks p) os) ns k (nothing p))

uncoded_tree : (p : Program) (n : Node) → has_code (uncoded p n).tree ≡ false
uncoded_tree p n = go (has_code n.tree) refl
  where
    go : (b : Bool) → has_code n.tree ≡ b → has_code (uncoded p n).tree ≡ false
    go true is = ap (λ (c : Bool). has_code (if c then nothing p else n).tree) is
    go false is = ap (λ (c : Bool). has_code (if c then nothing p else n).tree) is ∙ is

-- the last numbers are those of nodes without code
pub no_code : (p : Program) (ns : List Node) (k : ℕ) → others_from p ≤ k → has_code (origin_of p ns k).tree ≡ false
no_code p ns k h = ap (λ (n : Node). has_code n.tree) (high_origin p ns k h) ∙ uncoded_tree p (file_origin p (k - others_from p))
