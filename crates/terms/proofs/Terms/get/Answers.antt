use Rattle.terms.proofs.Reading.{read_means, read_earlier, read_measures}
use Rattle.terms.proofs.Terms.get.Goals as goal

pub returns : goal.returns
returns c =
    let T = c.args.self.now in
    let within = c.requires.within in
    let read = c.get.ensures in
    let some = c.unwrap.ensures in
    record {
      means = read_means T _ _ _ within read some;
      earlier = read_earlier T _ _ _ within read some;
      measures = read_measures T _ _ _ within read some;
      small = T.sound.small _ within;
    }
