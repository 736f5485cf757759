use Rattle.std.proofs.Common.{◌≤◌, Some, refl, sym, subst, ap, ◌∙◌, length, IfOk}
use Rattle.kr_io.proofs.disk.DiskFilesFiles.read.Goals as goal
use Rattle.kr_io.proofs.Noted.{nothing_told}

-- src/disk.rt:151:5
pub returns : goal.returns
returns g c =
    let noted = c.noted.ensures.noted in
    record {
      later = noted.later;
      constant = λ other. refl;
      bytes = nothing_told c.args.most c.noted.result;
      short = subst (λ r. IfOk r (λ v. length v.items ≤ c.args.most)) (sym c.noted.ensures.found) c.read_file-found.ensures;
      ok_faults = noted.ok_faults;
      ok_last = noted.ok_last;
      memory_faults = noted.memory_faults;
      memory_last = noted.memory_last;
      failed_last = λ e. noted.failed_last e ∙ ap Some c.in_ok-kept.ensures;
      cause = noted.cause;
    }
