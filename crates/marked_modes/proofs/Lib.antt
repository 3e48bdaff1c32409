mod HeldLemmas
mod ChangeLemmas
mod PictureLemmas
