use Rattle.std.proofs.Common.{sym, subst, ◌+◌, List}
use Rattle.kr_classes_names.proofs.Growing.{extends_on, number_kept}
use Rattle.kr_types.specs.declared.program.TypedFile.{TypedFile}
use Rattle.kr_types.specs.Programs.{AreTypedFiles}
use Rattle.kr_types.proofs.Faults.{file_more}
use Rattle.kr_types.proofs.files.typed_files.Goals as goal

pub loop-file-preserved : goal.loop-file-preserved
loop-file-preserved c =
    let files = c.args.trees.now in
    let a = c.loop-file.types in
    let b = c.typed_file.new.types in
    let inv = c.loop-file.invariant in
    let grown = c.in_ok-typed.ensures.extends in
    record {
      extends = extends_on _ a b inv.extends grown;
      numbers = λ f n. number_kept a b _ _ grown (inv.numbers f n);
      typed = subst (λ (ts : List TypedFile). AreTypedFiles files b (c.loop-file.file + 1) ts) (sym c.in_ok-push.ensures.items) (file_more files a b c.loop-file.file c.loop-file.files.items c.in_ok-typed.typed grown inv.typed c.in_ok-typed.ensures.typed);
    }
