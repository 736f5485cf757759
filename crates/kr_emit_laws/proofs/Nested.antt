-- Classes are nested once: no class of a derived file has a name that no heading has.
use Rattle.std.proofs.Common.{◌≡◌, ℕ, ◌+◌, true, false, List, [], ◌∷◌, ◌++◌, length, Some, None}
use Rattle.std.specs.Prelude.{bytes_eq, flat_map}
use Rattle.std.specs.List.{AllByRecursion}
use Rattle.kr_lex.specs.Lexemes.{Lexeme}
use Rattle.kr_ast.specs.Tree as trees
use Rattle.kr_ast.specs.Tree.{Tree}
use Rattle.kr_parse_grammar.specs.Grammar as grammar
use Rattle.kr_parse_grammar.specs.Grammar.{Der, Derives}
use Rattle.kr_classes_table.specs.Table.{Heading, items, heading_of, with_nested, headings_from}
use Rattle.kr_laws_types.specs.Derivation.{IsMember, IsClass, AreClasses}
use Rattle.kr_space_meaning.proofs.Each.{each_back, each_front}
use Rattle.kr_emit_laws.proofs.Members.{Others}

-- ---- depths

abbrev NotClass : Tree → Type 0
NotClass (trees.Class p n e ms) = ⊥
NotClass t = Unit {0}

abbrev NoClass : Tree → Type 0
NoClass (trees.Cons a b) = NotClass a × NoClass b
NoClass t = Unit {0}

abbrev Inner : Tree → Type 0
Inner (trees.Class p n e ms) = NoClass ms
Inner t = Unit {0}

abbrev Once : Tree → Type 0
Once (trees.Cons a b) = Inner a × Once b
Once t = Unit {0}

abbrev Outer : Tree → Type 0
Outer (trees.Class p n e ms) = Once ms
Outer t = Unit {0}

abbrev pub Outers : Tree → Type 0
Outers (trees.Cons a b) = Outer a × Outers b
Outers t = Unit {0}

abbrev Nest : grammar.Class → Tree → Type 0
Nest (grammar.ClassDeclaration true) t = Inner t
Nest (grammar.ClassDeclaration false) t = Outer t
Nest (grammar.Member o true) t = NotClass t
Nest (grammar.Member o false) t = Inner t
Nest (grammar.Members o true) t = NoClass t
Nest (grammar.Members o false) t = Once t
Nest grammar.Classes t = Outers t
Nest c t = Unit {0}

nest : {c : grammar.Class} {i r : List Lexeme} {t : Tree} → Der c i t r → Nest c t
nest (grammar.nested f k l d) = nest d
nest (grammar.field {n = true} a f k d e l) = tt
nest (grammar.field {n = false} a f k d e l) = tt
nest (grammar.method {n = true} a b c d e x f y k l z m n w o) = tt
nest (grammar.method {n = false} a b c d e x f y k l z m n w o) = tt
nest (grammar.constructor {n = true} a b c d e f k n l x m o y z p) = tt
nest (grammar.constructor {n = false} a b c d e f k n l x m o y z p) = tt
nest (grammar.no_member {n = true}) = tt
nest (grammar.no_member {n = false}) = tt
nest (grammar.skip_member a k d) = nest d
nest (grammar.member {n = true} d e) = (nest d, nest e)
nest (grammar.member {n = false} d e) = (nest d, nest e)
nest (grammar.class {n = true} a b c d k l x m y n) = nest y
nest (grammar.class {n = false} a b c d k l x m y n) = nest y
nest grammar.no_class = tt
nest (grammar.skip_class a k d) = nest d
nest (grammar.another f k d e) = (nest d, nest e)
nest d = tt

pub file_nests : (i : List Lexeme) (t : Tree) → Derives i t → Outers t
file_nests i t d = nest d.2

-- ---- names

module _ (w : List ℕ) where
  abbrev pub IsOther : Heading → Type 0
  IsOther h = bytes_eq w h.name ≡ false

  none_other : (ms : Tree) → IsMember true ms → NoClass ms → Others w ms
  none_other trees.Nil h n = tt
  none_other (trees.Cons (trees.Class p n e ms) b) h k = absurd k.0
  none_other (trees.Cons (trees.Field p st fi t ds) b) h k = (tt, none_other b h.1 k.1)
  none_other (trees.Cons (trees.Method p st n g c) b) h k = (tt, none_other b h.1 k.1)
  none_other (trees.Cons (trees.Constructor p ps c d) b) h k = (tt, none_other b h.1 k.1)
  none_other (trees.Cons _ b) h k = absurd h.0
  none_other _ h k = absurd h

  once_other : (k : ℕ) (ms : Tree) → IsMember true ms → Once ms → AllByRecursion IsOther (flat_map (heading_of (Some k)) (items ms)) → Others w ms
  once_other k trees.Nil h o a = tt
  once_other k (trees.Cons (trees.Class p n e ms) b) h o a = ((a.0, none_other ms h.0.1 o.0), once_other k b h.1 o.1 a.1)
  once_other k (trees.Cons (trees.Field p st fi t ds) b) h o a = (tt, once_other k b h.1 o.1 a)
  once_other k (trees.Cons (trees.Method p st n g c) b) h o a = (tt, once_other k b h.1 o.1 a)
  once_other k (trees.Cons (trees.Constructor p ps c d) b) h o a = (tt, once_other k b h.1 o.1 a)
  once_other k (trees.Cons _ b) h o a = absurd h.0
  once_other k _ h o a = absurd h

  -- the names of the classes of a list are other ones
  abbrev AllOther : List Tree → Type 0
  AllOther ms = (k : ℕ) → AllByRecursion IsOther (headings_from k ms)

  own_other : (k : ℕ) (m : Tree) → IsClass m → Outer m → AllByRecursion IsOther (with_nested k (heading_of None m)) → Others w m
  own_other k (trees.Class p n e ms) h o a = (a.0, once_other k ms h.1 o a.1)
  own_other k _ h o a = absurd h

  -- the classes of a list, of which each is numbered after those before it
  file_other : (k : ℕ) (file : Tree) (more : List Tree) → AreClasses file → Outers file → AllByRecursion IsOther (headings_from k (items file ++ more)) → Others w file × ((j : ℕ) × AllByRecursion IsOther (headings_from j more))
  file_other k trees.Nil more h o a = (tt, (k, a))
  file_other k (trees.Cons m b) more h o a =
      let own = with_nested k (heading_of None m) in
      let rest = headings_from (k + length own) (items b ++ more) in
      let next = file_other (k + length own) b more h.1 o.1 (each_back IsOther own rest a) in
      ((own_other k m h.0 o.0 (each_front IsOther own rest a), next.0), next.1)
  file_other k _ more h o a = absurd h

  pub files_other : (k : ℕ) (files : List Tree) → AllByRecursion AreClasses files → AllByRecursion Outers files → AllByRecursion IsOther (headings_from k (flat_map items files)) → AllByRecursion (Others w) files
  files_other k [] h o a = tt
  files_other k (file ∷ files) h o a = let first = file_other k file (flat_map items files) h.0 o.0 a in (first.0, files_other first.1.0 files h.1 o.1 first.1.1)
