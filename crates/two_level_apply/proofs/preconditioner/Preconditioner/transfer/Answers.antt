-- The transfer of a setup that fits stands within its lists, and is compressed rows.
use Rattle.two_level_apply.proofs.Parts.{columns_end, compressed}
use Rattle.two_level_apply.proofs.preconditioner.Preconditioner.transfer.Goals as goal

pub invariant_of-result : goal.invariant_of-result
invariant_of-result c =
    let p = c.args.self.now in
    let l = p.laid in
    record { fits = rw (columns_end p.setup p.places p.ints.now p.floats.now l c.requires, l.places) (compressed p.setup p.places p.ints.now p.floats.now l c.requires) }
