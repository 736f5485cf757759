-- The tool with one more command.
use Rattle.std.proofs.Common.{◌≡◌, ◌∙◌, ap₂}
use Rattle.clap.specs.Words.{App, with_subcommand}

-- one command more, where both are known
pub more : (a b c x y : App) → a ≡ with_subcommand b c.top → b ≡ x → c ≡ y → a ≡ with_subcommand x y.top
more a b c x y e f g = e ∙ ap₂ (λ (p q : App). with_subcommand p q.top) f g
