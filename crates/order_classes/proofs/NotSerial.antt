-- What is an anomaly.
use Rattle.std.proofs.Common.{ap, ◌∙◌, sym, option_map}
use Rattle.order_classes.specs.Shows.{shows_of_line}
use Rattle.order_classes.specs.Letters.{answers_of}
use Rattle.order_classes.specs.Laws.{LetterRIsExact}
use Rattle.order_classes.proofs.Serial.{serial-ranks}
use Rattle.order_classes.proofs.Orders.{orders-all}

pub letter-exact : LetterRIsExact
letter-exact tables spec s none = (
  λ x. (
    x.through,
    λ r lt serial h.
        x.other.none serial.0 ((orders-all spec.sessions serial.0).1 serial.1)
        (sym (ap (λ line. option_map answers_of (shows_of_line tables spec line)) serial.2) ∙ h),
  ),
  λ f. record {
    through = f.0;
    other = record {
      words = none;
      none = λ order m h.
          let x = serial-ranks spec none order m in
          f.1 x.0 x.1 (order, (orders-all spec.sessions order).0 m, x.2)
          (ap (λ line. option_map answers_of (shows_of_line tables spec line)) x.2 ∙ h);
    };
  },
)
