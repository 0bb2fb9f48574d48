mod Conditioned
mod OneFault
mod OneSet
mod Judged
