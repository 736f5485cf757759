-- Statements in order: the scopes that they leave, and where they lead.
use Rattle.std.proofs.Common.{◌≡◌, Bool, true, false, List, [], ◌∷◌, Option, refl, sym, ap, ◌∙◌, subst}
use Rattle.kr_base.specs.declared.place.Place.{Place}
use Rattle.kr_ast.specs.Tree as trees
use Rattle.kr_ast.specs.Tree.{Tree}
use Rattle.kr_classes_table.specs.Types.{JavaType}
use Rattle.kr_classes_table.specs.Table.{Table, items}
use Rattle.kr_types_meaning.specs.Scopes.{Scope, Local, Locals, after, written, declaring, bind_local}
use Rattle.kr_types_meaning.specs.Rules.{is_statement}
use Rattle.kr_types_meaning.specs.Typing.{judged}
use Rattle.kr_mean.specs.Program.{Program}
use Rattle.kr_mean.specs.declared.flow.Flow.{Flow}
use Rattle.kr_mean.specs.declared.flow.Flow.TheVariants.{Next, Broke, Continued, Left, Gave}
use Rattle.kr_mean.specs.Meaning.{Parts, then_on, all}
use Rattle.kr_laws_safety.specs.Triples.{Fixed, Safe, Extends, type_of_old}
use Rattle.kr_laws_safety.proofs.Heaps.{extends_self, extends_twice}
use Rattle.kr_laws_safety.proofs.Steps.{safe_give, safe_map, safe_then}
use Rattle.kr_laws_types.specs.Types.{is_variable_type, AreVariables}
use Rattle.kr_laws_types.specs.Shapes.{Statement, Statements, Declarators, IsCode}
use Rattle.kr_laws_types.specs.Expressions.{plain}
use Rattle.kr_laws_types.proofs.Expressions.{written_variable}
use Rattle.kr_laws_safety.specs.Typed.{AreUnbroken, IsTypedProgram}
use Rattle.kr_laws_safety.specs.Claims.{this_of, types_of, IsScope, Coded, Leads, LeadsOn, PartsSafe}
use Rattle.kr_laws_safety.proofs.Scoping.{after_plain, after_more}
use Rattle.kr_laws_safety.proofs.Operands.{written_is}
use Rattle.kr_laws_types.proofs.Typed.{front_none, back_none}

-- ---- scopes after declarations

-- where locals of a type are declared
abbrev pub declares : JavaType → Scope → Scope
declares w s = record s { declaring = Locals; declared = w }

abbrev pub with_locals : List Local → Scope → Scope
with_locals ls s = record s { locals = ls }

-- a scope with other locals, where other things are declared
abbrev pub shifted : Scope → Scope → Scope
shifted s u = record s { locals = u.locals; declaring = u.declaring; declared = u.declared }

module _ (arrays : List JavaType) (olds : Place → Option JavaType) where
  pub after_declared : (s u : Scope) (w : JavaType) (ds : Tree) → IsCode arrays olds Declarators u ds → after (declares w s) ds ≡ declares w (with_locals (after (declares w s) ds).locals s)
  after_declared s u w trees.Nil h = refl
  after_declared s u w (trees.Cons (trees.Declarator p n e) b) h = after_declared (bind_local n w s) (after u (trees.Declarator p n e)) w b h.1
  after_declared s u w (trees.Cons _ b) h = absurd h.0
  after_declared s u w _ h = absurd h

  pub declared_variables : (s u : Scope) (w : JavaType) (ds : Tree) → IsCode arrays olds Declarators u ds → is_variable_type w ≡ true → AreVariables s.locals → AreVariables (after (declares w s) ds).locals
  declared_variables s u w trees.Nil h v k = k
  declared_variables s u w (trees.Cons (trees.Declarator p n e) b) h v k = declared_variables (bind_local n w s) (after u (trees.Declarator p n e)) w b h.1 v (v, k)
  declared_variables s u w (trees.Cons _ b) h v k = absurd h.0
  declared_variables s u w _ h v k = absurd h

  -- a statement leaves all but locals and what is declared
  pub after_shifted : (m : Bool) (s u : Scope) (t : Tree) → IsCode arrays olds (Statement m) u t → after s t ≡ shifted s (after s t)
  after_shifted m s u (trees.Local p w ds) h = after_declared s (declaring Locals w u) (written s w) ds h.2 ∙ ap (λ (z : Scope). shifted s z) (sym (after_declared s (declaring Locals w u) (written s w) ds h.2))
  after_shifted m s u (trees.Empty p) h = refl
  after_shifted m s u (trees.Block p ts) h = refl
  after_shifted m s u (trees.ExpressionStatement p e) h = refl
  after_shifted m s u (trees.Return p e) h = refl
  after_shifted m s u (trees.Break p) h = refl
  after_shifted m s u (trees.Continue p) h = refl
  after_shifted m s u (trees.IfThen p c a) h = refl
  after_shifted m s u (trees.IfElse p c a b) h = refl
  after_shifted m s u (trees.While p c a) h = refl
  after_shifted m s u (trees.Do p a c) h = refl
  after_shifted m s u (trees.For p i c v a) h = refl
  after_shifted m s u (trees.Throw p e) h = refl
  after_shifted m s u (trees.Try p b cs) h = refl
  after_shifted m s u _ h = absurd h

  pub after_variables : (m : Bool) (s u : Scope) (t : Tree) → IsCode arrays olds (Statement m) u t → (judged s t).faults ≡ [] → AreVariables s.locals → AreVariables (after s t).locals
  unfolding judged
  after_variables m s u (trees.Local p w ds) h f k =
      let v = written_variable s w h.1 (front_none (judged s w).faults (judged (declaring Locals w s) ds).faults f) in
      declared_variables s (declaring Locals w u) (written s w) ds h.2 (subst (λ (z : JavaType). is_variable_type z ≡ true) (written_is s w v.0 h.1 v.1) v.2) k
  after_variables m s u (trees.Empty p) h f k = k
  after_variables m s u (trees.Block p ts) h f k = k
  after_variables m s u (trees.ExpressionStatement p e) h f k = k
  after_variables m s u (trees.Return p e) h f k = k
  after_variables m s u (trees.Break p) h f k = k
  after_variables m s u (trees.Continue p) h f k = k
  after_variables m s u (trees.IfThen p c a) h f k = k
  after_variables m s u (trees.IfElse p c a b) h f k = k
  after_variables m s u (trees.While p c a) h f k = k
  after_variables m s u (trees.Do p a c) h f k = k
  after_variables m s u (trees.For p i c v a) h f k = k
  after_variables m s u (trees.Throw p e) h f k = k
  after_variables m s u (trees.Try p b cs) h f k = k
  after_variables m s u _ h f k = absurd h

  -- ---- lists of statements

  -- the scope after statements in order
  abbrev pub after_all : Scope → List Tree → Scope
  after_all s [] = s
  after_all s (t ∷ ts) = after_all (after s t) ts

  pub after_items : (s u : Scope) (t : Tree) → IsCode arrays olds Statements u t → after_all s (items t) ≡ after s t
  after_items s u trees.Nil h = refl
  after_items s u (trees.Cons a b) h = after_items (after s a) (after u a) b h.1
  after_items s u _ h = absurd h

  -- a list of statements without broken nodes
  pub items_unbroken : (s : Scope) (t : Tree) → IsCode arrays olds Statements (plain s) t → (judged s t).faults ≡ [] → AreUnbroken arrays olds s (items t)
  unfolding judged
  items_unbroken s trees.Nil h f = tt
  items_unbroken s (trees.Cons a b) h f =
      (h.0, front_none (judged s a).faults (judged (after s a) b).faults f, items_unbroken (after s a) b (subst (λ (z : Scope). IsCode arrays olds Statements z b) (after_plain s a) h.1) (back_none (judged s a).faults (judged (after s a) b).faults f))
  items_unbroken s _ h f = absurd h

  pub all_more : (s : Scope) (ts : List Tree) → Extends (types_of s.locals) (types_of (after_all s ts).locals)
  all_more s [] = extends_self (types_of s.locals)
  all_more s (t ∷ ts) = extends_twice (types_of s.locals) (types_of (after s t).locals) (types_of (after_all (after s t) ts).locals) (after_more s t) (all_more (after s t) ts)

  pub all_shifted : (s : Scope) (ts : List Tree) → AreUnbroken arrays olds s ts → after_all s ts ≡ shifted s (after_all s ts)
  all_shifted s [] h = refl
  all_shifted s (t ∷ ts) h = all_shifted (after s t) ts h.2 ∙ ap (λ (z : Scope). shifted z (after_all (after s t) ts)) (after_shifted true s (plain s) t h.0)

  pub all_variables : (s : Scope) (ts : List Tree) → AreUnbroken arrays olds s ts → AreVariables s.locals → AreVariables (after_all s ts).locals
  all_variables s [] h k = k
  all_variables s (t ∷ ts) h k = all_variables (after s t) ts h.2 (after_variables true s (plain s) t h.0 h.1 k)

-- ---- where they lead

leads_more : (table : Table) (r : JavaType) (l : Bool) (before between locals more ms : List JavaType) (flow : Flow) → Extends before between → LeadsOn table r l between locals more ms flow → LeadsOn table r l before locals more ms flow
leads_more table r l before between locals more ms Next x h = h
leads_more table r l before between locals more ms Broke x h = (extends_twice before between ms x h.0, h.1)
leads_more table r l before between locals more ms Continued x h = (extends_twice before between ms x h.0, h.1)
leads_more table r l before between locals more ms Left x h = (extends_twice before between ms x h.0, h.1)
leads_more table r l before between locals more ms (Gave v) x h = (extends_twice before between ms x h.0, h.1, h.2)

module _ (program : Program) (fixed : Fixed) (facts : IsTypedProgram program) (p : Parts) (q : PartsSafe program fixed p) where
  pub shifted_scope : (s u : Scope) → IsScope program fixed s → AreVariables u.locals → IsScope program fixed (shifted s u)
  shifted_scope s u k v = (k.0, k.1, v, k.3, k.4)

  -- the scope after a statement is one of the program
  pub scope_after : (m : Bool) (s : Scope) (t : Tree) → IsScope program fixed s → Coded program fixed (Statement m) s t → (judged s t).faults ≡ [] → IsScope program fixed (after s t)
  scope_after m s t k h f =
      subst (IsScope program fixed) (sym (after_shifted program.arrays (type_of_old fixed.olds) m s (plain s) t h)) (shifted_scope s (after s t) k (after_variables program.arrays (type_of_old fixed.olds) m s (plain s) t h f k.2))

  abbrev pub Sequence : Scope → List Tree → Type 0
  Sequence s ts = (types : List JavaType) → Safe program fixed types (this_of s) (types_of s.locals) (all p (plain s) ts) (LeadsOn program.table s.result s.is_in_loop (types_of s.locals) (types_of (after_all program.arrays (type_of_old fixed.olds) s ts).locals))

  -- where a statement leads to, the others go on; else the list ends there
  goes_on : (s : Scope) (t : Tree) (ts : List Tree) → after s t ≡ shifted s (after s t) → Sequence (after s t) ts → (more ms : List JavaType) (flow : Flow) → Leads program.table s.result s.is_in_loop (types_of s.locals) (types_of (after s t).locals) more ms flow
      → Safe program fixed more (this_of s) ms (then_on flow (all p (after (plain s) t) ts)) (LeadsOn program.table s.result s.is_in_loop (types_of s.locals) (types_of (after_all program.arrays (type_of_old fixed.olds) (after s t) ts).locals))
  goes_on s t ts e rest more ms Next h =
      subst (λ (z : List JavaType). Safe program fixed more (this_of s) z (all p (after (plain s) t) ts) (LeadsOn program.table s.result s.is_in_loop (types_of s.locals) locals)) (sym h)
      (subst (λ (z : Scope). Safe program fixed more (this_of s) (types_of (after s t).locals) (all p z ts) (LeadsOn program.table s.result s.is_in_loop (types_of s.locals) locals)) (sym (after_plain s t))
      (safe_map program fixed more (this_of s) (types_of (after s t).locals) (all p (plain (after s t)) ts) _ _
      (subst (λ (z : Scope). Safe program fixed more (this_of z) (types_of (after s t).locals) (all p (plain (after s t)) ts) (LeadsOn program.table z.result z.is_in_loop (types_of (after s t).locals) locals)) e (rest more))
      (λ others ns flow l. leads_more program.table s.result s.is_in_loop (types_of s.locals) (types_of (after s t).locals) locals others ns flow (after_more s t) l)))
    where
      locals : List JavaType
      locals = types_of (after_all program.arrays (type_of_old fixed.olds) (after s t) ts).locals
  goes_on s t ts e rest more ms Broke h = safe_give program fixed more (this_of s) ms Broke _ (subst (λ (z : List JavaType). Extends (types_of s.locals) z) (sym h.0) (extends_self (types_of s.locals)), h.1)
  goes_on s t ts e rest more ms Continued h = safe_give program fixed more (this_of s) ms Continued _ (subst (λ (z : List JavaType). Extends (types_of s.locals) z) (sym h.0) (extends_self (types_of s.locals)), h.1)
  goes_on s t ts e rest more ms Left h = safe_give program fixed more (this_of s) ms Left _ (subst (λ (z : List JavaType). Extends (types_of s.locals) z) (sym h.0) (extends_self (types_of s.locals)), h.1)
  goes_on s t ts e rest more ms (Gave v) h = safe_give program fixed more (this_of s) ms (Gave v) _ (subst (λ (z : List JavaType). Extends (types_of s.locals) z) (sym h.0) (extends_self (types_of s.locals)), h.1, h.2)

  pub sequence : (s : Scope) (ts : List Tree) → IsScope program fixed s → is_statement s.role ≡ false → AreUnbroken program.arrays (type_of_old fixed.olds) s ts → Sequence s ts
  sequence s [] k r h types = safe_give program fixed types (this_of s) (types_of s.locals) Next _ refl
  sequence s (t ∷ ts) k r h types =
      let e = after_shifted program.arrays (type_of_old fixed.olds) true s (plain s) t h.0 in
      let role = ap (λ (z : Scope). is_statement z.role) e ∙ r in
      safe_then program fixed types (this_of s) (types_of s.locals) (p.exec (plain s) t) _ _ _ (q.exec true s t k r h.0 h.1 types)
      (λ more ms flow x l. goes_on s t ts e (sequence (after s t) ts (scope_after true s t k h.0 h.1) role h.2) more ms flow l)
