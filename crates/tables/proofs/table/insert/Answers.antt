use Rattle.std.proofs.Common.{rules}
use Rattle.tables.proofs.Adding.{comes_alive, found_there, others_stay, held_more}
use Rattle.tables.proofs.table.insert.Goals as goal

pub returns-clause-words : goal.returns-clause-words
returns-clause-words g c = search rules

pub returns-clause-alive : goal.returns-clause-alive
returns-clause-alive g c =
    let k = c.args.key in
    comes_alive g.R.Key.PartialEq.eq g.R.Row.key_of k g.R.Row.WIDTH (g.R.Row.fresh k) c.args.table.now _
    g.met.R.Row.some (g.met.R.Row.whole k) (g.met.R.Row.reads k) (returns-clause-words g c)

pub returns-clause-found : goal.returns-clause-found
returns-clause-found g c =
    let k = c.args.key in
    found_there g.R.Key.PartialEq.eq g.R.Row.key_of k g.R.Row.WIDTH (g.R.Row.fresh k) c.args.table.now _
    g.met.R.Row.some (g.met.R.Row.whole k) (g.met.R.Row.reads k) (returns-clause-words g c)

pub returns-clause-others : goal.returns-clause-others
returns-clause-others g c =
    let k = c.args.key in
    others_stay g.R.Key.PartialEq.eq g.R.Row.key_of k g.R.Row.WIDTH (g.R.Row.fresh k) c.args.table.now _
    g.met.R.Row.some (g.met.R.Row.whole k) (g.met.R.Row.reads k) (returns-clause-words g c) g.met.R.Key.Eq.laws

pub returns-clause-held : goal.returns-clause-held
returns-clause-held g c =
    let k = c.args.key in
    held_more g.R.Key.PartialEq.eq g.R.Row.key_of k g.R.Row.WIDTH (g.R.Row.fresh k) c.args.table.now _
    g.met.R.Row.some (g.met.R.Row.whole k) (g.met.R.Row.reads k) (returns-clause-words g c)
