-- Between crates: the limits on workers and windows.
use Rattle.std.specs.Prelude.{ℕ, ◌<◌, ◌≤◌}
use Rattle.kr_args.specs.declared.forms.Ask.{Ask}
use Rattle.kr_args.specs.declared.forms.Command.{Command}
use Rattle.kr_args.specs.declared.forms.Command.TheVariants as commands
use Rattle.kr_args.specs.declared.forms.Search.{Search}
use Rattle.kr_args.specs.declared.forms.Search.TheVariants as searches

abbrev pub AreWorkers : ℕ → Type 0
AreWorkers workers = (0 < workers) × (workers ≤ 64)

abbrev pub IsWindow : ℕ → Type 0
IsWindow window = (0 < window) × (window ≤ 65536)

abbrev pub IsShared : Ask → Type 0
IsShared ask = AreWorkers ask.workers × IsWindow ask.window

-- a search has from one worker to the most, and a listing a window from one row to the most; builders are written by one worker
abbrev pub SearchesShared : Search → Type 0
SearchesShared (searches.List ask) = IsShared ask
SearchesShared (searches.Test method ask) = IsShared ask
SearchesShared (searches.Demo n workers) = AreWorkers workers
SearchesShared (searches.Shard ask) = IsShared ask
SearchesShared (searches.Emit ask) = Unit {0}

-- so has a command that searches, or that checks a log
abbrev pub HasWorkers : Command → Type 0
HasWorkers (commands.Search search) = SearchesShared search
HasWorkers (commands.Check fin sources) = Unit {0}
HasWorkers (commands.Merge files) = Unit {0}
HasWorkers (commands.Upgrade fin) = Unit {0}
HasWorkers (commands.Trace file from to workers) = AreWorkers workers
