mod Steps
mod Walking
