-- Tasks, one after another.
use Rattle.std.proofs.Common.{◌≡◌, ℕ, ◌+◌, ◌<◌, ◌≤◌, List, [], ◌∷◌, ◌++◌, length, Some, refl, sym, ap, subst, ◌∙◌, arith}
use Rattle.kr_classes_table.specs.Table.{Table}
use Rattle.kr_classes_table.specs.Constants.{Known}
use Rattle.kr_ast.specs.Tree.{size}
use Rattle.kr_ast.specs.Arena.{Arena, tree_in, tree_of, name_in, parts, ArePartsFrom}
use Rattle.kr_types_meaning.specs.Scopes.{Scope, after}
use Rattle.kr_types_scopes.specs.declared.within.Binding.{Binding}
use Rattle.kr_types_scopes.specs.declared.within.Within.{Within}
use Rattle.kr_types_scopes.specs.declared.tasks.Task.{Task}
use Rattle.kr_types_scopes.specs.declared.tasks.Task.TheVariants as tasks
use Rattle.kr_ast.specs.declared.node.Entry.{Entry}
use Rattle.kr_ast.specs.declared.node.Name.{Name}
use Rattle.kr_ast.specs.declared.node.Node.{Node}
use Rattle.kr_ast.specs.declared.node.Node.TheVariants as nodes
use Rattle.kr_types_meaning.specs.Scopes.{bind_local, bind_as}
use Rattle.kr_types_scopes.specs.declared.within.Declaring.TheVariants as declarings
use Rattle.kr_types_scopes.specs.Settings.{Setting, setting, type_there, scope_in, IsChain}
use Rattle.kr_types_scopes.specs.Tasks.{behind, behind_all, weights, AreWithin, IsStep, IsPassed}
use Rattle.kr_types_scopes.proofs.Chains.{step_same, step_as, keeps_on}
use Rattle.kr_types_scopes.proofs.Plain.{after_stays, size_some}

pub behind_append : (g : Setting) (s : Scope) (a b : List Task) → behind_all g s (a ++ b) ≡ behind_all g (behind_all g s a) b
behind_append g s [] b = refl
behind_append g s (t ∷ a) b = behind_append g (behind g s t) a b

pub weights_append : (tree : Arena) (a b : List Task) → weights tree (a ++ b) ≡ weights tree a + weights tree b
weights_append tree [] b = omega arith
weights_append tree (t ∷ a) b = omega (arith, weights_append tree a b)

pub within_append : (n : ℕ) (a b : List Task) → AreWithin n a → AreWithin n b → AreWithin n (a ++ b)
within_append n [] b h k = k
within_append n (t ∷ a) b h k = (h.0, within_append n a b h.1 k)

-- a node with its entry
pub record IsEntryThere (tree : Arena) (i : ℕ) (e : Entry) : Type 0 where
  pub within : i < length tree.entries
  pub stands : tree_in tree i ≡ tree_of tree.text (tree_in tree) e.place e.node
  pub parted : ArePartsFrom tree.entries i 0 (parts e.node)

module _ (tree : Arena) (i : ℕ) (e : Entry) (h : IsEntryThere tree i e) (bs : List Binding) (from : Within) (before : List Task) (chain : IsChain bs) (top : from.top ≤ length bs) where
  tree_is : (n : Node) → e.node ≡ n → tree_in tree i ≡ tree_of tree.text (tree_in tree) e.place n
  tree_is n is = h.stands ∙ ap (λ m. tree_of tree.text (tree_in tree) e.place m) is

  parts_are : (n : Node) → e.node ≡ n → ArePartsFrom tree.entries i 0 (parts n)
  parts_are n is = subst (λ (m : Node). ArePartsFrom tree.entries i 0 (parts m)) is h.parted

  size_is : (n : Node) → e.node ≡ n → size (tree_in tree i) ≡ size (tree_of tree.text (tree_in tree) e.place n)
  size_is n is = ap size (tree_is n is)

  stay : (w : Within) → w.top ≤ length bs → IsStep tree bs bs w (λ g. scope_in g bs w)
  stay w l = step_same tree bs w (λ g. scope_in g bs w) chain l (λ t v. refl)

  pub passed_cons : (a b : ℕ) → e.node ≡ nodes.Cons a b → IsPassed tree bs bs from (tasks.Pass i) before (tasks.Pass a ∷ tasks.Pass b ∷ before) from
  passed_cons a b is =
      let p = parts_are (nodes.Cons a b) is in
      record {
        own = tasks.Pass a ∷ tasks.Pass b ∷ [];
        tasks_are = refl;
        within = (omega (arith, p.0.below, h.within), (omega (arith, p.1.0.below, h.within), tt));
        light = omega (arith, size_is (nodes.Cons a b) is);
        step = stay from top;
        same = λ t v. sym (ap (after (scope_in (setting t v tree) bs from)) (tree_is (nodes.Cons a b) is));
      }

  pub passed_local : (a b : ℕ) → e.node ≡ nodes.Local a b → IsPassed tree bs bs from (tasks.Pass i) before (tasks.Pass b ∷ before) (record from { declaring = declarings.Locals; declared = Some a })
  passed_local a b is =
      let p = parts_are (nodes.Local a b) is in
      record {
        own = tasks.Pass b ∷ [];
        tasks_are = refl;
        within = (omega (arith, p.1.0.below, h.within), tt);
        light = omega (arith, size_is (nodes.Local a b) is);
        step = stay (record from { declaring = declarings.Locals; declared = Some a }) top;
        same = λ t v. sym (ap (after (scope_in (setting t v tree) bs from)) (tree_is (nodes.Local a b) is));
      }

  pub passed_signature : (a b c : ℕ) → e.node ≡ nodes.Signature a b c → IsPassed tree bs bs from (tasks.Pass i) before (tasks.Pass b ∷ tasks.SetResult a ∷ before) from
  passed_signature a b c is =
      let p = parts_are (nodes.Signature a b c) is in
      record {
        own = tasks.Pass b ∷ tasks.SetResult a ∷ [];
        tasks_are = refl;
        within = (omega (arith, p.1.0.below, h.within), (omega (arith, p.0.below, h.within), tt));
        light = omega (arith, size_is (nodes.Signature a b c) is, size_some (tree_in tree a));
        step = stay from top;
        same = λ t v. signature t v;
      }
    where
      signature : (t : Table) (v : List Known)
          → behind_all (setting t v tree) (scope_in (setting t v tree) bs from) (tasks.Pass b ∷ tasks.SetResult a ∷ []) ≡ behind (setting t v tree) (scope_in (setting t v tree) bs from) (tasks.Pass i)
      signature t v = sym (ap (after (scope_in (setting t v tree) bs from)) (tree_is (nodes.Signature a b c) is))

  pub passed_plain : ((a b : ℕ) → e.node ≡ nodes.Cons a b → ⊥) → ((a b : ℕ) → e.node ≡ nodes.Local a b → ⊥) → ((a b c : ℕ) → e.node ≡ nodes.Signature a b c → ⊥)
      → ((x : Name) (a : ℕ) → e.node ≡ nodes.Declarator x a → ⊥) → ((a : ℕ) (x : Name) → e.node ≡ nodes.Parameter a x → ⊥) → IsPassed tree bs bs from (tasks.Pass i) before before from
  passed_plain c l g d m = record {
    own = [];
    tasks_are = refl;
    within = tt;
    light = omega (arith, size_some (tree_in tree i));
    step = stay from top;
    same = λ t v. sym (ap (after (scope_in (setting t v tree) bs from)) h.stands ∙ after_stays (scope_in (setting t v tree) bs from) tree.text (tree_in tree) e.place e.node c l g d m);
  }

  -- a local more
  pub passed_bound : (new : List Binding) (w : Within) (f : Setting → Scope) → IsStep tree bs new w f
      → ((t : Table) (v : List Known) → f (setting t v tree) ≡ after (scope_in (setting t v tree) bs from) (tree_in tree i)) → IsPassed tree bs new from (tasks.Pass i) before before w
  passed_bound new w f s is = record {
    own = [];
    tasks_are = refl;
    within = tt;
    light = omega (arith, size_some (tree_in tree i));
    step = record { top = s.top; scope_is = λ t v. refl; keeps = s.keeps; chain = s.chain; named = s.named };
    same = λ t v. s.scope_is t v ∙ is t v;
  }

  pub declarator_is : (x : Name) (a : ℕ) → e.node ≡ nodes.Declarator x a → (t : Table) (v : List Known)
      → bind_as (scope_in (setting t v tree) bs from).declaring (name_in tree.text x) (scope_in (setting t v tree) bs from) ≡ after (scope_in (setting t v tree) bs from) (tree_in tree i)
  declarator_is x a is t v = sym (ap (after (scope_in (setting t v tree) bs from)) (tree_is (nodes.Declarator x a) is))

  pub parameter_is : (a : ℕ) (x : Name) → e.node ≡ nodes.Parameter a x → (t : Table) (v : List Known)
      → bind_local (name_in tree.text x) (type_there (setting t v tree) (Some a)) (scope_in (setting t v tree) bs from) ≡ after (scope_in (setting t v tree) bs from) (tree_in tree i)
  parameter_is a x is t v = sym (ap (after (scope_in (setting t v tree) bs from)) (tree_is (nodes.Parameter a x) is))

pub passed_result : (tree : Arena) (bs : List Binding) (from : Within) (before : List Task) → IsChain bs → from.top ≤ length bs → (r : ℕ) → IsPassed tree bs bs from (tasks.SetResult r) before before (record from { result = Some r })
passed_result tree bs from before chain top r = record {
  own = [];
  tasks_are = refl;
  within = tt;
  light = omega arith;
  step = step_same tree bs (record from { result = Some r }) (λ g. scope_in g bs (record from { result = Some r })) chain top (λ t v. refl);
  same = λ t v. refl;
}

-- how far it has come
pub record IsUnderWay (tree : Arena) (old bs : List Binding) (scope from : Within) (node : ℕ) (ts : List Task) : Type 0 where
  pub within : AreWithin (length tree.entries) ts
  pub step : IsStep tree old bs scope (λ g. scope_in g bs scope)
  pub same : (t : Table) (v : List Known) → behind_all (setting t v tree) (scope_in (setting t v tree) bs scope) ts ≡ after (scope_in (setting t v tree) old from) (tree_in tree node)

pub way_start : (tree : Arena) (old : List Binding) (from : Within) (node : ℕ) → node < length tree.entries → IsChain old → from.top ≤ length old → IsUnderWay tree old old from from node (tasks.Pass node ∷ [])
way_start tree old from node lt chain top = record {
  within = (lt, tt);
  step = step_same tree old from (λ g. scope_in g old from) chain top (λ t v. refl);
  same = λ t v. refl;
}

pub way_on : (tree : Arena) (old bs new : List Binding) (scope made from : Within) (node : ℕ) (task : Task) (rest now : List Task) → IsUnderWay tree old bs scope from node (task ∷ rest)
    → IsPassed tree bs new scope task rest now made → IsUnderWay tree old new made from node now
way_on tree old bs new scope made from node task rest now u p = record {
  within = rw p.tasks_are (within_append (length tree.entries) p.own rest p.within u.within.1);
  step = record {
    top = p.step.top;
    scope_is = λ t v. refl;
    keeps = λ t v. keeps_on (setting t v tree) old bs new (u.step.keeps t v) (p.step.keeps t v);
    chain = p.step.chain;
    named = λ h. p.step.named (u.step.named h);
  };
  same = λ t v.
      let g = setting t v tree in
      ap (behind_all g (scope_in g new made)) p.tasks_are
      ∙ (behind_append g (scope_in g new made) p.own rest
      ∙ (ap (λ s. behind_all g s rest) (p.same t v) ∙ u.same t v));
}

pub way_light : (tree : Arena) (bs new : List Binding) (scope made : Within) (task : Task) (rest now : List Task) → IsPassed tree bs new scope task rest now made → weights tree now < weights tree (task ∷ rest)
way_light tree bs new scope made task rest now p = omega (arith, ap (weights tree) p.tasks_are, weights_append tree p.own rest, p.light)

pub way_end : (tree : Arena) (old bs : List Binding) (scope from : Within) (node : ℕ) → IsUnderWay tree old bs scope from node []
    → IsStep tree old bs scope (λ g. after (scope_in g old from) (tree_in g.tree node))
way_end tree old bs scope from node u = step_as tree old bs scope (λ g. scope_in g bs scope) (λ g. after (scope_in g old from) (tree_in g.tree node)) u.step u.same
