-- Each file goes after the files before it.
use Rattle.cmd_setups.specs.FilesRead.{octets_of_name, octets_of_names}
use Rattle.cmd_setups.specs.SharedTexts.{octets_of_texts}
use Rattle.upc_lab.specs.SetupHints.{names_with_file}
use Rattle.upc_lab.proofs.SettingUp.{all_hints, first_and_rest, next_file, no_file_left, no_text_left}
use Rattle.upc_lab.proofs.setup_hints.files_hints.Goals as goal

pub returns-in_default-texts_left : goal.returns-in_default-texts_left
returns-in_default-texts_left c =
    all_hints (octets_of_names c.args.files.now) (octets_of_texts c.args.texts.now) c.loop-left.invariant.0 (octets_of_names c.loop-left.left.now) (octets_of_texts c.loop-left.texts_left.now)
    c.loop-left.hints.items c.loop-left.invariant.2
    (no_text_left c.loop-left.invariant.0 (octets_of_names c.loop-left.left.now) c.loop-left.texts_left.now c.in_default-texts_left.len_below)

pub loop-left-preserved : goal.loop-left-preserved
loop-left-preserved c =
    let before = c.loop-left.invariant.0 in
    let added_text = c.in_ok-add_file_hints.ensures.hinted before c.loop-left.invariant.1 in
    let added = rw c.as_slice.ensures at added_text in (
      names_with_file (octets_of_name c.file-item.result) before,
      c.in_ok-add_file_hints.ensures.met before c.loop-left.invariant.1,
      next_file (octets_of_names c.args.files.now) (octets_of_texts c.args.texts.now) before c.loop-left.left.now _ c.file-item.result c.loop-left.texts_left.now _ c.text-item.result
          c.loop-left.hints.items c.add_file_hints.new.hints.items
          (first_and_rest c.loop-left.left.now c.file-item.result c.in-len1-up.len_at_least c.file-item.is)
          (first_and_rest c.loop-left.texts_left.now c.text-item.result c.in-len1-up-texts_left.len_at_least c.text-item.is) c.loop-left.invariant.2 added,
    )

pub returns : goal.returns
returns c =
    all_hints (octets_of_names c.args.files.now) (octets_of_texts c.args.texts.now) c.loop-left.invariant.0 (octets_of_names c.loop-left.left.now) (octets_of_texts c.loop-left.texts_left.now)
    c.loop-left.hints.items c.loop-left.invariant.2
    (no_file_left c.loop-left.invariant.0 c.loop-left.left.now (octets_of_texts c.loop-left.texts_left.now) c.in_default.len_below)
