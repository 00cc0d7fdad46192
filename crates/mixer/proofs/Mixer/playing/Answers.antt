-- Whoever the table finds to play plays by the law.
use Rattle.mixer.proofs.Asks.{told_playing}
use Rattle.mixer.proofs.Mixer.playing.Goals as goal

pub returns : goal.returns
returns g c =
    let x = c.args.self.now in
    record { law = λ m made h f. told_playing m made h x.table.places x.table.order.items (g.B.Bank.lists x.bank) f.table c.playing.result c.playing.ensures.answer }
