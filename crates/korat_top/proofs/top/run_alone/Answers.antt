use Rattle.std.proofs.Common.{◌≡◌, refl, sym, subst, Option, Some, None}
use Rattle.kr_args.specs.declared.forms.Command.{Command}
use Rattle.kr_report.specs.Texts.{usage_text, memory_text}
use Rattle.korat_top.specs.Answer.{asked_of}
use Rattle.korat_top.specs.Ends.{EndsFor, seen}
use Rattle.korat_top.specs.OneWorker.{IfEnded, IsLeft}
use Rattle.korat_top.proofs.Calls.{writes_seen, put_usage, put_memory, complete}
use Rattle.korat_top.proofs.OneWorker.{complete_ends, memory_status, within_left}
use Rattle.korat_top.proofs.top.run_alone.Goals as goal

pub returns-in-Ok : goal.returns-in-Ok
returns-in-Ok g c =
    let words = c.args.words.now in
    let files = c.args.files.now in
    let out = c.args.out.now in
    let alone = c.serve.result in
    let asked : asked_of words ≡ Some c.in-Ok.asked = c.in-Ok.ensures.means in
    let before = seen g.F.Files.held g.F.Files.faults g.F.Files.last g.K.Sink.taken g.K.Sink.faults files out in
    let after = seen g.F.Files.held g.F.Files.faults g.F.Files.last g.K.Sink.taken g.K.Sink.faults c.serve.new.files c.serve.new.out in
    let ends = subst (λ (a : Option Command). IfEnded alone (EndsFor a before after)) (sym asked) c.serve.ensures.headline in
    record {
      headline = ends;
      complete = complete_ends (asked_of words) before after alone ends;
      left = subst (λ (a : Option Command). IsLeft a files c.serve.new.files out c.serve.new.out alone) (sym asked) c.serve.ensures.left;
      within = within_left c.in-Ok.asked files c.serve.new.files out c.serve.new.out alone c.in-Ok.ensures.sources c.in-Ok.ensures.workers c.serve.ensures.left;
    }

pub returns-in-Err-Usage : goal.returns-in-Err-Usage
returns-in-Err-Usage g c =
    let words = c.args.words.now in
    let asked : asked_of words ≡ None = c.in-Err-Usage.ensures.means c.in-Err-Usage.field-0-is in
    let before = seen g.F.Files.held g.F.Files.faults g.F.Files.last g.K.Sink.taken g.K.Sink.faults c.args.files.now c.args.out.now in
    let after = seen g.F.Files.held g.F.Files.faults g.F.Files.last g.K.Sink.taken g.K.Sink.faults c.args.files.now c.put_usage_fault.new.out in
    let written = writes_seen g.F.Files.held g.F.Files.faults g.F.Files.last g.K.Sink.taken g.K.Sink.faults c.args.files.now c.args.files.now c.args.out.now c.put_usage_fault.new.out usage_text c.put_usage_fault.result c.put_usage_fault.ensures in
    let ends = put_usage before after c.once_written.result (asked_of words) c.put_usage_fault.result asked refl written c.once_written.ensures in
    record {
      headline = ends;
      complete = complete (asked_of words) before after c.once_written.result ends;
      left = rw asked (λ several. absurd (cc (several)));
      within = tt;
    }

pub returns-in-Err-NoMemory : goal.returns-in-Err-NoMemory
returns-in-Err-NoMemory g c =
    let words = c.args.words.now in
    let status = c.once_written-in-Err-NoMemory.result in
    let before = seen g.F.Files.held g.F.Files.faults g.F.Files.last g.K.Sink.taken g.K.Sink.faults c.args.files.now c.args.out.now in
    let after = seen g.F.Files.held g.F.Files.faults g.F.Files.last g.K.Sink.taken g.K.Sink.faults c.args.files.now c.put_out_of_memory.new.out in
    let written = writes_seen g.F.Files.held g.F.Files.faults g.F.Files.last g.K.Sink.taken g.K.Sink.faults c.args.files.now c.args.files.now c.args.out.now c.put_out_of_memory.new.out memory_text c.put_out_of_memory.result c.put_out_of_memory.ensures in
    let ends = put_memory before after status (asked_of words) c.put_out_of_memory.result refl written c.once_written-in-Err-NoMemory.ensures in
    record {
      headline = ends;
      complete = complete (asked_of words) before after status ends;
      left = λ several. (refl, memory_status status c.put_out_of_memory.result c.once_written-in-Err-NoMemory.ensures);
      within = tt;
    }
