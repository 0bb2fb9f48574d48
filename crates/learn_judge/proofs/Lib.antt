mod Asked
mod Below
mod Conditioned
mod Taking
