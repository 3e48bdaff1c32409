mod Blanks
mod Darkness
mod Parts
mod StepLines
mod Worked
mod Declaring
mod PartLemmas
