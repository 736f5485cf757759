-- Between crates: how many objects there are, by object domains.
use Rattle.std.specs.Prelude.{◌≡◌, ℕ, List, [], map}
use Rattle.kr_fin.specs.declared.document.Count.{Count}
use Rattle.kr_value.specs.declared.object.Class.TheVariants.{Object}
use Rattle.kr_mean.specs.Problem as problems
use Rattle.kr_mean.specs.Problem.{Problem, choices_in}
use Rattle.kr_space_layout.specs.declared.item.DomainEntry.{DomainEntry}
use Rattle.kr_space_layout.specs.declared.stretch.Block.{Block}
use Rattle.kr_space_layout.specs.declared.classes.ClassDomain.{ClassDomain}
use Rattle.kr_space_layout.specs.Items.{domain_of}
use Rattle.kr_space_layout.specs.Stretches.{all_choices, stretch_of}

-- the values of each domain are those of its entries, where these are the objects
abbrev pub AreBlocks : Problem → List Block → Type 0
AreBlocks problem blocks = (items : List DomainEntry) → choices_in problem (domain_of items) ≡ all_choices (map (stretch_of blocks) items)

-- class domains of which only the counts matter
abbrev pub bare_class : ℕ → ClassDomain
bare_class n = record { name = []; class = Object 0; count = n; spots = [] }

abbrev pub counts_of : List problems.ClassDomain → List ℕ
counts_of domains = map (λ d. d.count) domains

-- how many objects object domains have
abbrev pub object_counts : List (ℕ × Count) → List ℕ
object_counts objects = map (λ o. o.1.count) objects
