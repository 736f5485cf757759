-- What the steps of a command accept is accepted as the laws on programs ask.
use Rattle.std.proofs.Common.{◌≡◌, ℕ, ◌+◌, ◌≤◌, List, [], ◌∷◌, length, Result, Ok, Err, refl, ap, subst}
use Rattle.std.specs.List.{AllByRecursion}
use Rattle.kr_ast.specs.Tree.{Tree}
use Rattle.kr_mean.specs.Problem.{Problem}
use Rattle.kr_mean.specs.declared.mode.Mode.{Mode}
use Rattle.kr_laws_never_stuck.specs.Grown.{AreGrown, AreProgram}
use Rattle.kr_laws_never_stuck.specs.Accepted.{IsAccepted}
use Rattle.korat_top_files.specs.Refusals.{Inputs, Refusal}
use Rattle.korat_top_files.specs.Steps as steps
use Rattle.korat_top_files.specs.Steps.{AreRead, AreTrees, Checks, Judges, LIMIT, accepted, impure, judged, long_finitization, long_source, unclassed, unlexed, unparsed, unposed, unstated, untyped}
use Rattle.kr_io.specs.Held.{Held}
use Rattle.korat_top_laws.specs.Laws.{AcceptedLaw}

pub grown : (n : ℕ) (sources : List (List ℕ)) (trees : List Tree) → AreTrees n sources trees → AreGrown n sources trees
grown n [] [] h = tt
grown n [] (t ∷ ts) h = absurd h
grown n (bytes ∷ sources) [] h = absurd h
grown n (bytes ∷ sources) (t ∷ ts) h = (record { tokens = h.0.0.list; spelled = h.0.1.spelled; derived = h.0.2.derived }, grown (n + 1) sources ts h.1)

pub program : (sources : List (List ℕ)) (trees : List Tree) → steps.AreProgram sources trees → AreProgram sources trees
program sources [] h = absurd h
program sources (t ∷ ts) h = (h.0, grown 0 sources ts h.1)

of_steps : (mode : Mode) (fin : List ℕ) (sources : List (List ℕ)) (problem : Problem) (result : Result Problem Refusal) → Judges mode fin sources result → result ≡ Ok problem → IsAccepted sources fin mode problem
of_steps mode fin sources problem _ (accepted trees document own read classes types stated posed pure) e =
    let same : own ≡ problem = ap inside e in
    subst (λ (p : Problem). IsAccepted sources fin mode p) same
    (record { files = trees; read = program sources trees read; classes = classes; types = types; document = document; stated = stated; posed = posed })
  where
    inside : Result Problem Refusal → Problem
    inside (Ok p) = p
    inside (Err r) = problem
of_steps mode fin sources problem _ (unlexed front bytes rest trees r a b c) e = absurd (cc (e))
of_steps mode fin sources problem _ (unparsed front bytes rest trees tokens r a b c d) e = absurd (cc (e))
of_steps mode fin sources problem _ (unclassed trees r a b) e = absurd (cc (e))
of_steps mode fin sources problem _ (untyped trees r a b c) e = absurd (cc (e))
of_steps mode fin sources problem _ (unstated trees r a b c d) e = absurd (cc (e))
of_steps mode fin sources problem _ (unposed trees document r a b c d f) e = absurd (cc (e))
of_steps mode fin sources problem _ (impure trees document own r a b c d f g) e = absurd (cc (e))

pub accepted_is : AcceptedLaw
accepted_is mode fin sources problem h = of_steps mode fin sources problem (Ok problem) h refl

-- files whose problem it is
pub record AreOf (mode : Mode) (problem : Problem) : Type 0 where
  pub fin : List ℕ
  pub sources : List (List ℕ)
  pub short : AllByRecursion (λ bytes. length bytes ≤ LIMIT) sources
  pub accepted_as : IsAccepted sources fin mode problem

all_short : (held : Held) (names texts : List (List ℕ)) → AreRead held names texts → AllByRecursion (λ bytes. length bytes ≤ LIMIT) texts
all_short held [] [] h = tt
all_short held [] (bytes ∷ texts) h = absurd h
all_short held (name ∷ names) [] h = absurd h
all_short held (name ∷ names) (bytes ∷ texts) h = (h.0.1, all_short held names texts h.1)

files_of : (held : Held) (mode : Mode) (inputs : Inputs) (problem : Problem) (result : Result Problem Refusal) → Checks held mode inputs result → result ≡ Ok problem → AreOf mode problem
files_of held mode inputs problem _ (judged fin texts result a b steps) e = record { fin = fin; sources = texts; short = all_short held inputs.sources texts b; accepted_as = of_steps mode fin texts problem result steps e }
files_of held mode inputs problem _ (long_finitization a) e = absurd (cc (e))
files_of held mode inputs problem _ (long_source fin front name rest texts a b c d) e = absurd (cc (e))

pub checked : (held : Held) (mode : Mode) (inputs : Inputs) (problem : Problem) → Checks held mode inputs (Ok problem) → AreOf mode problem
checked held mode inputs problem h = files_of held mode inputs problem (Ok problem) h refl
