-- Steps of the machine, forward and back.
use Rattle.std.proofs.Common.{◌≡◌, List, [], ◌∷◌, ◌++◌, Option, Some, None, refl, ap, ◌∙◌}
use Rattle.kr_lex.specs.Lexemes.{Lexeme}
use Rattle.kr_parse_grammar.specs.declared.terminal.Terminal.{Terminal}
use Rattle.kr_parse_grammar.specs.declared.terminal.Terminal.TheVariants as terminals
use Rattle.kr_parse_grammar.specs.declared.value.Tag.{Tag}
use Rattle.kr_parse_grammar.specs.declared.value.Form.TheVariants as forms
use Rattle.kr_parse_grammar.specs.declared.goal.Goal.{Goal}
use Rattle.kr_parse_grammar.specs.declared.goal.Make.{Make}
use Rattle.kr_parse_grammar.specs.declared.goal.Spelled.{Spelled}
use Rattle.kr_parse_grammar.specs.declared.goal.Symbol.{Symbol}
use Rattle.kr_parse_grammar.specs.declared.goal.Symbol.TheVariants.{Take, Keep, Word, Literal as Leaf, Spell, Want, Build}
use Rattle.kr_parse_grammar.specs.Terminals.{terminal_of}
use Rattle.kr_parse_grammar.specs.Values.{StackItem, mark, word, part, tag}
use Rattle.kr_parse_grammar.specs.Made.{made, literal}
use Rattle.kr_parse_grammar.specs.Machine.{ahead, rule, Runs, done, take, keep, name, leaf, spell, want, build}

abbrev pub RunsOf : Option (List Symbol) → List Symbol → List StackItem → List Lexeme → List StackItem → Type 0
RunsOf None ss vs i ws = ⊥
RunsOf (Some body) ss vs i ws = Runs (body ++ ss) vs i ws

-- the machine continues from a goal exactly by its rule
pub opens : {g : Goal} {ss : List Symbol} {vs ws : List StackItem} {i : List Lexeme} → Runs (Want g ∷ ss) vs i ws → RunsOf (rule g (ahead i) (tag vs)) ss vs i ws
opens {g = g} {vs = vs} {i = i} (want body e d) = rw e d

pub open_at : (g : Goal) (k : Terminal) {ss : List Symbol} {vs ws : List StackItem} {i : List Lexeme} → ahead i ≡ k → Runs (Want g ∷ ss) vs i ws → RunsOf (rule g k (tag vs)) ss vs i ws
open_at g k e d = rw e at (opens d)

pub open_with : (g : Goal) (k : Terminal) (q : Tag) {ss : List Symbol} {vs ws : List StackItem} {i : List Lexeme} → ahead i ≡ k → tag vs ≡ q → Runs (Want g ∷ ss) vs i ws → RunsOf (rule g k q) ss vs i ws
open_with g k q e z d = rw z at (open_at g k e d)

pub step : (g : Goal) (k : Terminal) (ss : List Symbol) (vs ws : List StackItem) (i : List Lexeme) → ahead i ≡ k → RunsOf (rule g k (tag vs)) ss vs i ws → Runs (Want g ∷ ss) vs i ws
step g k ss vs ws i e d = go (rule g k (tag vs)) refl d
  where
    go : (o : Option (List Symbol)) → rule g k (tag vs) ≡ o → RunsOf o ss vs i ws → Runs (Want g ∷ ss) vs i ws
    go None z x = absurd x
    go (Some body) z x = want body (ap (λ y. rule g y (tag vs)) e ∙ z) x

-- a step, if the values on top are known by their tag
pub step_with : (g : Goal) (k : Terminal) (q : Tag) (ss : List Symbol) (vs ws : List StackItem) (i : List Lexeme) → ahead i ≡ k → tag vs ≡ q → RunsOf (rule g k q) ss vs i ws → Runs (Want g ∷ ss) vs i ws
step_with g k q ss vs ws i e z d = step g k ss vs ws i e (let x : RunsOf (rule g k (tag vs)) ss vs i ws = rw z d in x)

pub take_inv : {ss : List Symbol} {vs ws : List StackItem} {i : List Lexeme} {k : Terminal} → Runs (Take k ∷ ss) vs i ws → (a : Lexeme) × (j : List Lexeme) × (i ≡ a ∷ j) × (terminal_of a.kind ≡ k) × Runs ss vs j ws
take_inv (take {i = i} a p d) = (a, i, refl, p, d)

pub name_inv : {ss : List Symbol} {vs ws : List StackItem} {i : List Lexeme} → Runs (Word ∷ ss) vs i ws → (a : Lexeme) × (j : List Lexeme) × (i ≡ a ∷ j) × (terminal_of a.kind ≡ terminals.Identifier) × Runs ss (word a.place a.text ∷ vs) j ws
name_inv (name {i = i} a p d) = (a, i, refl, p, d)

pub take_next : {ss : List Symbol} {vs ws : List StackItem} {a : Lexeme} {i : List Lexeme} {k : Terminal} → Runs (Take k ∷ ss) vs (a ∷ i) ws → Runs ss vs i ws
take_next (take a p d) = d

pub take_kind : {ss : List Symbol} {vs ws : List StackItem} {i : List Lexeme} {k : Terminal} → Runs (Take k ∷ ss) vs i ws → ahead i ≡ k
take_kind (take a p d) = p

pub keep_next : {ss : List Symbol} {vs ws : List StackItem} {a : Lexeme} {i : List Lexeme} {k : Terminal} → Runs (Keep k ∷ ss) vs (a ∷ i) ws → Runs ss (mark a.kind a.place ∷ vs) i ws
keep_next (keep a p d) = d

pub keep_inv : {ss : List Symbol} {vs ws : List StackItem} {i : List Lexeme} {k : Terminal} → Runs (Keep k ∷ ss) vs i ws → (a : Lexeme) × (j : List Lexeme) × (i ≡ a ∷ j) × (terminal_of a.kind ≡ k) × Runs ss (mark a.kind a.place ∷ vs) j ws
keep_inv (keep {i = i} a p d) = (a, i, refl, p, d)

pub name_next : {ss : List Symbol} {vs ws : List StackItem} {a : Lexeme} {i : List Lexeme} → Runs (Word ∷ ss) vs (a ∷ i) ws → Runs ss (word a.place a.text ∷ vs) i ws
name_next (name a p d) = d

pub leaf_next : {ss : List Symbol} {vs ws : List StackItem} {a : Lexeme} {i : List Lexeme} → Runs (Leaf ∷ ss) vs (a ∷ i) ws → Runs ss (part a.place forms.Other (literal a) ∷ vs) i ws
leaf_next (leaf a p d) = d

pub spell_next : {ss : List Symbol} {vs ws : List StackItem} {a : Lexeme} {i : List Lexeme} {s : Spelled} → Runs (Spell s ∷ ss) vs (a ∷ i) ws → Runs ss vs i ws
spell_next (spell a p q d) = d

pub want_next : {g : Goal} {ss : List Symbol} {vs ws : List StackItem} {i : List Lexeme} (body : List Symbol) → rule g (ahead i) (tag vs) ≡ Some body → Runs (Want g ∷ ss) vs i ws → Runs (body ++ ss) vs i ws
want_next body e d = rw e at (opens d)

pub build_inv : {ss : List Symbol} {vs ws : List StackItem} {i : List Lexeme} {m : Make} → Runs (Build m ∷ ss) vs i ws → Runs ss (made m vs) i ws
build_inv (build d) = d

pub done_inv : {vs us : List StackItem} {i : List Lexeme} → Runs [] vs i us → vs ≡ us
done_inv done = refl

-- the machine takes tokens in one way
pub same : {ss : List Symbol} {vs ws us : List StackItem} {i : List Lexeme} → Runs ss vs i ws → Runs ss vs i us → ws ≡ us
same done e = done_inv e
same (take a p d) e = same d (take_next e)
same (keep a p d) e = same d (keep_next e)
same (name a p d) e = same d (name_next e)
same (leaf a p d) e = same d (leaf_next e)
same (spell a p q d) e = same d (spell_next e)
same (want body q d) e = same d (want_next body q e)
same (build d) e = same d (build_inv e)
