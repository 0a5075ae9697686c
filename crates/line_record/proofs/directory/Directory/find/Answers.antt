use Rattle.std.proofs.Common.{◌∙◌, ap}
use Rattle.line_record.specs.Directory.{DirectoryView, seating_at}
use Rattle.line_record.proofs.directory.Directory.find.Goals as goal

pub returns-clause-seating : goal.returns-clause-seating
returns-clause-seating c =
    c.find.ensures ∙ ap (λ (view : DirectoryView). seating_at view c.args.vc) c.self.view_is
