-- Between crates: the place of an item that is in no source.
use Rattle.kr_base.specs.declared.place.Place.{Place}

abbrev pub nowhere : Place
nowhere = record { file = 0; line = 0; col = 0 }
