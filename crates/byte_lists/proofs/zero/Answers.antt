use Rattle.byte_lists.proofs.zero.Goals as goal

pub returns : goal.returns
returns g c = rw (← c.ZERO.ensures) (c.fill.ensures.after (g.met.T.Element.clones c.ZERO.result).1)
